-- Where the keys of the values lie that meet some comparisons.
use Rattle.std.specs.Prelude.{◌≡◌, pos, ℕ, Bool, true, false, ◌&&◌, ◌||◌, if◌then◌else◌, List, []}
use Rattle.std.specs.Prelude.{◌∷◌, ◌++◌, Option, None, Some}
use Rattle.std.specs.Cmp.Lexicographic.{slice_cmp}
use Rattle.std.specs.Ordering.{is_le, nat_cmp}
use Rattle.fx_types.specs.declared.comparisons.Cmp.{Cmp}
use Rattle.fx_types.specs.declared.comparisons.Cmp.TheVariants.{Eq, Ne, Lt, Le, Gt, Ge}
use Rattle.fx_types.specs.Types.{Shape}
use Rattle.fx_types.specs.Values.{Data, blank, number}
use Rattle.fx_value.specs.Keys.{IsProper, key_bytes}
use Rattle.fx_value.specs.Order.{IsScalar}
use Rattle.fx_plan.specs.declared.ranges.Span.{Span}
use Rattle.fx_plan.specs.Ranges.{AllTaken, Comparison, is_blank, is_empty, is_numbers, meets_all}
use Rattle.fx_value.specs.Fits.{fits_in}
use Rattle.row_queries.specs.declared.ranges.KeyRange.{KeyRange}
use Rattle.row_queries.specs.Ranges.{in_range}

-- the least key of a value other than blank, and the key after one
abbrev pub least : List ℕ
least = 1 ∷ []

abbrev pub after : List ℕ → List ℕ
after key = key ++ 0 ∷ []

abbrev pub no_keys : KeyRange
no_keys = record { from = least; upto = Some least }

-- the keys of the values other than blank that compare so with a constant other than blank
abbrev pub range_by : Cmp → Data → KeyRange
range_by Eq d = record { from = key_bytes d; upto = Some (after (key_bytes d)) }
range_by Ne d = record { from = least; upto = None }
range_by Lt d = record { from = least; upto = Some (key_bytes d) }
range_by Le d = record { from = least; upto = Some (after (key_bytes d)) }
range_by Gt d = record { from = after (key_bytes d); upto = None }
range_by Ge d = record { from = key_bytes d; upto = None }

-- with blank: no value equals it, and beside numbers it counts as 0
abbrev pub range_by_blank : Cmp → Bool → KeyRange
range_by_blank Eq n = no_keys
range_by_blank op n = if n then range_by op (number (pos 0)) else no_keys

abbrev pub range_of : Cmp → Bool → Data → KeyRange
range_of op n blank = range_by_blank op n
range_of op n d = range_by op d

-- what lies in both
abbrev pub both_from : List ℕ → List ℕ → List ℕ
both_from a b = if is_le (slice_cmp nat_cmp a b) then b else a

abbrev pub both_upto : Option (List ℕ) → Option (List ℕ) → Option (List ℕ)
both_upto None b = b
both_upto (Some a) None = Some a
both_upto (Some a) (Some b) = Some (if is_le (slice_cmp nat_cmp a b) then a else b)

abbrev pub both_ranges : KeyRange → KeyRange → KeyRange
both_ranges a b = record { from = both_from a.from b.from; upto = both_upto a.upto b.upto }

abbrev pub both_spans : Span → Span → Span
both_spans a b = record {
  range = both_ranges a.range b.range;
  blank = a.blank && b.blank;
  zero = a.zero && b.zero;
}

abbrev pub joined_spans : Option Span → Option Span → Option Span
joined_spans None b = b
joined_spans (Some a) None = Some a
joined_spans (Some a) (Some b) = Some (both_spans a b)

-- where the values lie that meet the comparisons, in a column of numbers or in another one
pub record IsSpan (n : Bool) (s : Span) (ps : List Comparison) : Type 0 where
  pub some : is_empty ps ≡ false
  pub blank : s.blank ≡ meets_all ps blank
  pub zero : n ≡ true → s.zero ≡ meets_all ps (number (pos 0))
  pub above : is_le (slice_cmp nat_cmp least s.range.from) ≡ true
  pub lies : (t : Shape) → is_numbers t ≡ n → AllTaken t ps → (d : Data) → IsScalar d → IsProper d
      → fits_in d t ≡ true → is_blank d ≡ false →
      in_range (key_bytes d) s.range ≡ meets_all ps d

-- the same where there are any
abbrev pub IsSpanOf : Bool → Option Span → List Comparison → Type 0
IsSpanOf n None ps = ps ≡ []
IsSpanOf n (Some s) ps = IsSpan n s ps

-- the comparisons are taken by a column of numbers, or by one of another type
abbrev pub AreTakenBy : Bool → List Comparison → Type 0
AreTakenBy n ps = (t : Shape) × (is_numbers t ≡ n) × AllTaken t ps

abbrev pub blank_range : KeyRange
blank_range = record { from = 0 ∷ []; upto = Some least }

abbrev pub span_ranges : Bool → Span → List KeyRange
span_ranges n s = (if s.blank || (n && s.zero) then blank_range ∷ [] else []) ++ s.range ∷ []
