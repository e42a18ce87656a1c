-- The lines that tell of broken rules.
use Rattle.std.specs.Prelude.{ℕ, List, [], ◌∷◌, ◌++◌, Bool, ◌==◌, ◌||◌, if◌then◌else◌, codes}
use Rattle.std.specs.Prelude.{flat_map, encode_utf8_all}
use Rattle.std.specs.Fmt.{decimal}
use Rattle.std.specs.List.{list_any}
use Rattle.fx_core.specs.declared.broken.Broken.{Broken}
use Rattle.fx_core.specs.Rules.{rule_number, name_of}

-- `<cell>: E<n> <Name> at <at>: <detail>`, in bytes
unfoldable pub broken_line : Broken → List ℕ
broken_line b = encode_utf8_all b.cell
    ++ (codes ": E" ++ (decimal (rule_number b.rule) ++ (codes " " ++ (name_of b.rule
    ++ (codes " at " ++ (decimal b.at ++ (codes ": " ++ encode_utf8_all b.detail)))))))

-- the line with its end
abbrev pub ended_line : Broken → List ℕ
ended_line b = broken_line b ++ codes "\n"

-- a point, and a single quote
abbrev pub has_mark : ℕ → Bool
has_mark c = c == 46 || c == 39

-- a character, and a single quote twice
abbrev pub single_quote_doubled : ℕ → List ℕ
single_quote_doubled c = if c == 39 then 39 ∷ 39 ∷ [] else c ∷ []

-- A name in an address: one with a point or a quote stands between quotes, with its own quotes
-- doubled.
abbrev pub address_of : List ℕ → List ℕ
address_of name = if list_any has_mark name then 39
    ∷ (flat_map single_quote_doubled name ++ 39 ∷ []) else name
