-- Ranges of keys, and which of them rise.
use Rattle.std.specs.Prelude.{◌≡◌, ℕ, Bool, true, ◌&&◌, List, [], ◌∷◌, Option, Some, None}
use Rattle.std.specs.Cmp.Lexicographic.{slice_cmp}
use Rattle.std.specs.List.{list_any}
use Rattle.std.specs.Ordering.{nat_cmp, is_le, is_lt}
use Rattle.fx_types.specs.Values.{Data}
use Rattle.fx_value.specs.Keys.{key_bytes}
use Rattle.fx_value.specs.Order.{IsScalar}
use Rattle.row_queries.specs.declared.ranges.KeyRange.{KeyRange}

-- a key is before an end, where there is one
abbrev pub is_before_end : Option (List ℕ) → List ℕ → Bool
is_before_end None k = true
is_before_end (Some upto) k = is_lt (slice_cmp nat_cmp k upto)

-- a range holds the keys from its beginning on, up to but without its end
abbrev pub in_range : List ℕ → KeyRange → Bool
in_range k r = is_le (slice_cmp nat_cmp r.from k) && is_before_end r.upto k

abbrev pub in_ranges : List KeyRange → List ℕ → Bool
in_ranges rs k = list_any (in_range k) rs

-- what ends here ends before a range, and before each of several
abbrev pub EndsBefore : Option (List ℕ) → KeyRange → Type 0
EndsBefore None r = ⊥
EndsBefore (Some upto) r = is_le (slice_cmp nat_cmp upto r.from) ≡ true

abbrev pub EndsBeforeAll : Option (List ℕ) → List KeyRange → Type 0
EndsBeforeAll upto [] = Unit {0}
EndsBeforeAll upto (r ∷ rs) = EndsBefore upto r × EndsBeforeAll upto rs

-- ranges that rise and don't overlap: each ends before all later ones begin
abbrev pub AreRangesRising : List KeyRange → Type 0
AreRangesRising [] = Unit {0}
AreRangesRising (r ∷ rs) = EndsBeforeAll r.upto rs × AreRangesRising rs

-- the key of every scalar lies in the ranges
abbrev pub HoldEveryKey : List KeyRange → Type 0
HoldEveryKey rs = (d : Data) → IsScalar d → in_ranges rs (key_bytes d) ≡ true
