-- The keys of scalars.
use Rattle.std.specs.Prelude.{◌≡◌, ◌↔◌, true, ℕ, ◌^◌, pos, ◌+ℤ◌, List, [], ◌∷◌, encode_utf8_all}
use Rattle.std.specs.Prelude.{unsigned_abs, if◌then◌else◌}
use Rattle.std.specs.Ordering.{nat_cmp}
use Rattle.std.specs.Cmp.Lexicographic.{slice_cmp}
use Rattle.std.specs.Int.{to_be_bytes, w32, w64}
use Rattle.std.specs.Str.{all_scalars}
use Rattle.std.specs.declared.cmp.Ordering.TheVariants.{Equal}
use Rattle.fx_types.specs.Days.{IsDay}
use Rattle.fx_types.specs.Values.{Data, blank, number, text, boolean, date}
use Rattle.fx_number.specs.Decimal.{IsInRange}
use Rattle.fx_value.specs.Order.{AreOfOneType, order}

-- the bytes that stand for a scalar in an index: 0 for blank, and else 1 and then the eight bytes
-- of a number's count plus 2^63, the four of a day's number plus 2^31, 0 or 1, or a text's UTF-8
abbrev pub key_bytes : Data → List ℕ
key_bytes blank = 0 ∷ []
key_bytes (number z) = 1 ∷ to_be_bytes w64 (unsigned_abs (z +ℤ pos (2 ^ 63)))
key_bytes (text cs) = 1 ∷ encode_utf8_all cs
key_bytes (boolean b) = 1 ∷ (if b then 1 else 0) ∷ []
key_bytes (date z) = 1 ∷ to_be_bytes w32 (unsigned_abs (z +ℤ pos (2 ^ 31)))
key_bytes _ = []

-- what every value keeps: numbers and days are in their ranges, and texts are of scalar values
abbrev pub IsProper : Data → Type 0
IsProper (number z) = IsInRange z
IsProper (date z) = IsDay z
IsProper (text cs) = all_scalars cs ≡ true
IsProper _ = Unit {0}

-- keys order as their scalars do
abbrev pub KeysOrder : Type 0
KeysOrder = (a b : Data) → AreOfOneType a b → IsProper a → IsProper b
    → slice_cmp nat_cmp (key_bytes a) (key_bytes b) ≡ order a b

-- keys are equal exactly where the order does not tell their scalars apart
abbrev pub KeysTell : Type 0
KeysTell = (a b : Data) → AreOfOneType a b → IsProper a → IsProper b → (key_bytes a ≡ key_bytes b)
    ↔ (order a b ≡ Equal)
