-- How long the body of a request is, by the fields of its head.
use Rattle.std.specs.Prelude.{ℕ, ◌&&◌, Bool, nat_le, List, [], ◌∷◌, length, map, codes}
use Rattle.std.specs.Prelude.{if◌then◌else◌, bytes_eq}
use Rattle.std.specs.List.{filter, list_all, list_any}
use Rattle.std.specs.Char.{is_ascii_digit, to_ascii_lowercase}
use Rattle.std.specs.Str.Parse.{digits_value}
use Rattle.app_wire.specs.declared.body.BodyLength.{BodyLength}
use Rattle.app_wire.specs.declared.body.BodyLength.TheVariants.{NotOffered, Bad, TooLong, Bytes}

-- a field: its name, and its value without the spaces and tabs at its ends
abbrev pub Field : Type 0
Field = List ℕ × List ℕ

-- the name is this one in lower case: names are compared without case of A to Z
abbrev pub is_name : List ℕ → List ℕ → Bool
is_name lower name = bytes_eq (map to_ascii_lowercase name) lower

-- the values of the fields of a name, in their order
abbrev pub values_named : List ℕ → List Field → List (List ℕ)
values_named lower fields = map (λ field. field.1) (filter (λ field. is_name lower field.0) fields)

-- 1 to 19 digits
abbrev pub is_length : List ℕ → Bool
is_length value = nat_le 1 (length value) && nat_le (length value) 19
    && list_all is_ascii_digit value

-- the most bytes of a body
abbrev pub most_body : ℕ
most_body = 1048576

-- by the value of the one `Content-Length`
abbrev pub length_in : List ℕ → BodyLength
length_in value =
    if is_length value then (if nat_le (digits_value 10 value) most_body then Bytes
    (digits_value 10 value) else TooLong)
    else Bad

-- by the values of all of them: with none the body is empty, and more than one are bad
abbrev pub length_by : List (List ℕ) → BodyLength
length_by [] = Bytes 0
length_by (value ∷ []) = length_in value
length_by (value ∷ second ∷ more) = Bad

-- by all fields: a `Transfer-Encoding` is not offered, and comes before any `Content-Length`
abbrev pub body_length : List Field → BodyLength
body_length fields =
    if list_any (λ field. is_name (codes "transfer-encoding") field.0) fields then NotOffered
    else length_by (values_named (codes "content-length") fields)
