-- What the words ask for.
use Rattle.std.specs.Prelude.{ℕ, ◌&&◌, nat_le, Bool, true, false, List, [], ◌∷◌, length, Option}
use Rattle.std.specs.Prelude.{Some, None, is_some, String, string_bytes, bytes_eq, codes}
use Rattle.std.specs.Prelude.{if◌then◌else◌}
use Rattle.std.specs.Str.{all_ascii_digits}
use Rattle.std.specs.Str.Parse.{digits_value}
use Rattle.std.specs.declared.alloc.Global.{Global}
use Rattle.fx_cli.specs.declared.words.Form.{Form}
use Rattle.fx_cli.specs.declared.words.Form.TheVariants.{View, Check, Serve}

-- How an app is served: with the rows of the store of a name, on a port, if one is listened on, and
-- at most so many conversations.
pub record Service : Type 0 where
  pub store : List ℕ
  pub port : Option ℕ
  pub most : ℕ

-- plain digits that write a number of at least 1 and at most so much
abbrev pub is_number_to : ℕ → List ℕ → Bool
is_number_to most text = (nat_le 1 (length text) && all_ascii_digits text)
    && (nat_le 1 (digits_value 10 text) && nat_le (digits_value 10 text) most)

-- the number that they write
abbrev pub number_to : ℕ → List ℕ → Option ℕ
number_to most text = if is_number_to most text then Some (digits_value 10 text) else None

abbrev pub port_of : List ℕ → Option ℕ
port_of text = number_to 65535 text

abbrev pub service_count : List ℕ → Option ℕ
service_count text = number_to 1000000000 text

-- it is this word
abbrev pub is_word : List ℕ → String Global → Bool
is_word text word = bytes_eq (string_bytes word) text

-- an app's file, where it is to be served
abbrev pub app_if : Bool → List ℕ → Option (Form × List ℕ)
app_if b app = if b then Some (Serve, app) else None

-- The form of the words, and the file that they name: FILE of `view FILE`, or APP of `check APP`,
-- of `replay APP` and of `serve APP DB PORT [COUNT]`.
abbrev pub wanted : List (String Global) → Option (Form × List ℕ)
wanted [] = None
wanted (command ∷ []) = None
wanted (command ∷ file ∷ []) =
    if is_word (codes "view") command then Some (View, string_bytes file)
    else (if is_word (codes "check") command then Some (Check, string_bytes file) else app_if
    (is_word (codes "replay") command) (string_bytes file))
wanted (command ∷ app ∷ store ∷ []) = None
wanted (command ∷ app ∷ store ∷ port ∷ []) =
    app_if (is_word (codes "serve") command && is_some (port_of (string_bytes port)))
    (string_bytes app)
wanted (command ∷ app ∷ store ∷ port ∷ count ∷ []) =
    app_if (is_word (codes "serve") command && (is_some (port_of (string_bytes port))
    && is_some (service_count (string_bytes count)))) (string_bytes app)
wanted (command ∷ app ∷ store ∷ port ∷ count ∷ other ∷ words) = None

-- plain digits that write a number of at most 1,000,000
abbrev pub is_sample_number : List ℕ → Bool
is_sample_number text = (nat_le 1 (length text) && all_ascii_digits text)
    && nat_le (digits_value 10 text) 1000000

-- the number that they write
abbrev pub sample_number : List ℕ → Option ℕ
sample_number text = if is_sample_number text then Some (digits_value 10 text) else None

-- the number of the sample load of `gen N`
abbrev pub sample_if : Bool → List ℕ → Option ℕ
sample_if true text = sample_number text
sample_if false text = None

abbrev pub sample : List (String Global) → Option ℕ
sample [] = None
sample (command ∷ []) = None
sample (command ∷ number ∷ []) = sample_if (is_word (codes "gen") command) (string_bytes number)
sample (command ∷ number ∷ other ∷ words) = None

-- the count, or else the usual one
abbrev pub or_usual : Option ℕ → ℕ
or_usual None = 1000000
or_usual (Some n) = n

-- How an app is served that the words name: up to 1,000,000 conversations, where they give no
-- count, and for `replay` with the store of the empty name and no port.
abbrev pub service : List (String Global) → Service
service (command ∷ app ∷ store ∷ port ∷ []) = record {
  store = string_bytes store;
  port = port_of (string_bytes port);
  most = 1000000;
}
service (command ∷ app ∷ store ∷ port ∷ count ∷ []) =
    record {
      store = string_bytes store;
      port = port_of (string_bytes port);
      most = or_usual (service_count (string_bytes count));
    }
service words = record { store = []; port = None; most = 1000000 }
