-- Which keys a query looks through: ranges on the first indexed column that a conjunct of its test
-- compares.
use Rattle.std.specs.Prelude.{◌≡◌, ℕ, zero, suc, pos, ◌==◌, Bool, true, false, not, ◌&&◌, ◌||◌}
use Rattle.std.specs.Prelude.{if◌then◌else◌, List, [], ◌∷◌, ◌++◌, Option, None, Some, slice_get}
use Rattle.std.specs.Prelude.{option_map}
use Rattle.std.specs.List.{list_all}
use Rattle.fx_types.specs.declared.comparisons.Cmp.{Cmp}
use Rattle.fx_types.specs.declared.comparisons.Cmp.TheVariants.{Eq, Ne}
use Rattle.fx_types.specs.TypeView.{shape}
use Rattle.fx_types.specs.Types.{Shape, numbers, dates}
use Rattle.fx_types.specs.Values.{Data, blank, number}
use Rattle.fx_core.specs.declared.schema.Column.{Column}
use Rattle.fx_core.specs.declared.schema.TableShape.{TableShape}
use Rattle.fx_value.specs.Keys.{IsProper, key_bytes}
use Rattle.fx_value.specs.Operators.{holds_of}
use Rattle.fx_value.specs.Order.{IsScalar}
use Rattle.fx_plan.specs.declared.ranges.Reach.{Reach}
use Rattle.fx_value.specs.Fits.{fits_in}
use Rattle.row_queries.specs.Conditions.{Condition, ConditionList, compares, all_of, no_conditions}
use Rattle.row_queries.specs.Conditions.{also}
use Rattle.row_queries.specs.declared.ranges.KeyRange.{KeyRange}
use Rattle.row_queries.specs.Ranges.{in_ranges}
use Rattle.row_queries.specs.RowTests.{met, outcome}
use Rattle.row_queries.specs.TableRows.{value_at}

-- an operator with its constant, for a column
abbrev pub Comparison : Type 0
Comparison = Cmp × Data

-- = < <= > >=
abbrev pub serves : Cmp → Bool
serves Ne = false
serves op = true

-- the comparisons of a column by = < <= > >= among the conjuncts of a condition
abbrev mutual
  pub comparisons : ℕ → Condition → List Comparison
  comparisons column (compares op k d) = if (k == column) && serves op then (op, d) ∷ [] else []
  comparisons column (all_of cs) = all_comparisons column cs
  comparisons column c = []

  pub all_comparisons : ℕ → ConditionList → List Comparison
  all_comparisons column no_conditions = []
  all_comparisons column (also c cs) = comparisons column c ++ all_comparisons column cs

abbrev pub is_empty : {A : Type 0} → List A → Bool
is_empty [] = true
is_empty xs = false

-- a column is indexed, or unique and so indexed too, and the condition compares it
abbrev pub is_reached : Column → ℕ → Condition → Bool
is_reached c k test = (c.indexed || c.unique) && not (is_empty (comparisons k test))

-- the first such column from the one of this number on
abbrev pub first_reached : ℕ → List Column → Condition → Option ℕ
first_reached k [] test = None
first_reached k (c ∷ cs) test = if is_reached c k test then Some k else first_reached (suc k) cs
    test

-- `ID`, which is always indexed, comes first
abbrev pub reached_column : TableShape → Condition → Option ℕ
reached_column t test = if is_empty (comparisons 0 test) then first_reached 1 t.columns test else
    Some 0

-- the type of a column: that of `ID` is Number
abbrev pub column_type : TableShape → ℕ → Option Shape
column_type t zero = Some numbers
column_type t (suc k) = option_map (λ (c : Column). shape c.ty) (slice_get t.columns k)

abbrev pub is_numbers : Shape → Bool
is_numbers numbers = true
is_numbers t = false

abbrev pub is_blank : Data → Bool
is_blank blank = true
is_blank d = false

abbrev pub meets_all : List Comparison → Data → Bool
meets_all ps d = list_all (λ p. holds_of p.0 d p.1) ps

-- a value is sought that meets all comparisons, and blank in a column of numbers also where 0 does
abbrev pub is_sought : Shape → List Comparison → Data → Bool
is_sought t ps d = meets_all ps d || (is_blank d && (is_numbers t && meets_all ps (number (pos 0))))

-- the keys in the ranges are exactly those of sought values
abbrev pub AreSought : Shape → List Comparison → List KeyRange → Type 0
AreSought t ps ranges = (d : Data) → IsScalar d → IsProper d → fits_in d t ≡ true
    → in_ranges ranges (key_bytes d) ≡ is_sought t ps d

-- all keys
abbrev pub everything : List KeyRange
everything = record { from = []; upto = None } ∷ []

-- ranges on this column, or everything where there is none
abbrev pub IsReachOn : Option ℕ → TableShape → Condition → Reach → Type 0
IsReachOn None t test r = (r.column ≡ 0) × (r.ranges ≡ everything)
IsReachOn (Some k) t test r = (r.column ≡ k) × ((u : Shape) → column_type t k ≡ Some u
    → AreSought u (comparisons k test) r.ranges)

-- THE ranges of a condition on the rows of a table
abbrev pub IsReach : TableShape → Condition → Reach → Type 0
IsReach t test r = IsReachOn (reached_column t test) t test r

-- ---- what they need

-- < <= > >= compare numbers and dates
abbrev pub Compares : Cmp → Shape → Type 0
Compares Eq t = Unit {0}
Compares Ne t = Unit {0}
Compares op numbers = Unit {0}
Compares op dates = Unit {0}
Compares op t = ⊥

-- a comparison that columns of a type take, with a constant that is no error
pub record ColumnTakes (t : Shape) (p : Comparison) : Type 0 where
  pub operator : Compares p.0 t
  pub scalar : IsScalar p.1
  pub fits : fits_in p.1 t ≡ true

abbrev pub AllTaken : Shape → List Comparison → Type 0
AllTaken t [] = Unit {0}
AllTaken t (p ∷ ps) = ColumnTakes t p × AllTaken t ps

-- each column takes the comparisons among the conjuncts
abbrev pub TakesComparisons : TableShape → Condition → Type 0
TakesComparisons t test = (k : ℕ) (u : Shape) → column_type t k ≡ Some u
    → AllTaken u (comparisons k test)

-- ---- what holds of them

-- no row outside the ranges meets the test
abbrev pub NoRowIsMissed : Type 0
NoRowIsMissed = (t : Shape) (k : ℕ) (test : Condition) (row : List Data) → outcome row test ≡ met
    → is_sought t (comparisons k test) (value_at row k) ≡ true
