-- What a query asks of the rows of its table, and what it is given.
use Rattle.std.specs.Prelude.{◌≡◌, ◌⊎◌, true, ℕ, zero, suc, ◌≤◌, Bool, List, [], ◌∷◌, length, take}
use Rattle.std.specs.Prelude.{map, Option, Some, None, slice_get, IfSome, IsSomeAnd}
use Rattle.std.specs.List.{filter}
use Rattle.std.specs.List.Sorted.{IsPermutation, IsSorted}
use Rattle.std.specs.Ordering.{nat_cmp, ordering_then}
use Rattle.std.specs.declared.cmp.Ordering.{Ordering}
use Rattle.std.specs.declared.cmp.Ordering.TheVariants.{Equal}
use Rattle.fx_types.specs.declared.aggregates.Totals.{Totals}
use Rattle.fx_types.specs.declared.faults.Fault.{Fault}
use Rattle.fx_types.specs.TypeView.{shape}
use Rattle.fx_types.specs.Types.{numbers}
use Rattle.fx_core.specs.declared.schema.Column.{Column}
use Rattle.fx_core.specs.declared.schema.TableShape.{TableShape}
use Rattle.fx_value.specs.Keys.{key_bytes}
use Rattle.fx_value.specs.Aggregates.{SumsUp, numbers_in}
use Rattle.fx_value.specs.Ordered.{directed}
use Rattle.row_queries.specs.declared.queries.Query.{Query}
use Rattle.row_queries.specs.declared.rows.Row.{Row}
use Rattle.row_queries.specs.declared.rows.RowList.{RowList}
use Rattle.row_queries.specs.Ranges.{AreRangesRising, HoldEveryKey, in_ranges}
use Rattle.row_queries.specs.RowTests.{CanAsk, Outcome, failed, is_met, outcome}
use Rattle.row_queries.specs.TableRows.{IsRowOf, value_at, values_of}

-- ---- what a query needs

-- `ID`, or a column that is indexed or unique
abbrev pub IsIndexed : TableShape → ℕ → Type 0
IsIndexed t zero = Unit {0}
IsIndexed t (suc k) = IsSomeAnd (slice_get t.columns k)
    (λ (c : Column). (c.indexed ≡ true) ⊎ (c.unique ≡ true))

-- `ID`, or a column of numbers
abbrev pub IsOfNumbers : TableShape → ℕ → Type 0
IsOfNumbers t zero = Unit {0}
IsOfNumbers t (suc k) = IsSomeAnd (slice_get t.columns k) (λ (c : Column). shape c.ty ≡ numbers)

-- A query of one of these tables: its column is an indexed one, or its ranges hold every key; its
-- ranges rise and don't overlap; and its test can be asked of every row that fits the table.
pub record IsQuery (tables : List TableShape) (q : Query) : Type 0 where
  pub table : TableShape
  pub is_table : slice_get tables q.table ≡ Some table
  pub has_column : q.column ≤ length table.columns
  pub has_order : IfSome q.order (λ o. o.0 ≤ length table.columns)
  pub reaches : IsIndexed table q.column ⊎ HoldEveryKey q.ranges
  pub rises : AreRangesRising q.ranges
  pub asks : (r : Row) → IsRowOf table r → CanAsk (values_of r) q.test

-- a column of numbers of the query's table
abbrev pub CanTotal : List TableShape → Query → ℕ → Type 0
CanTotal tables q column = IsSomeAnd (slice_get tables q.table) (λ t. IsOfNumbers t column)

-- ---- what it is given

-- whether a row lies in a query's ranges
abbrev pub lies : Query → Row → Bool
lies q r = in_ranges q.ranges (key_bytes (value_at (values_of r) q.column))

-- how two rows go by a column, rising or falling, where one is named
abbrev pub by_column : Option (ℕ × Bool) → Row → Row → Ordering
by_column None a b = Equal
by_column (Some o) a b = directed o.1 (value_at (values_of a) o.0) (value_at (values_of b) o.0)

-- a query's order: by the column, and ties by rising `ID`
abbrev pub row_order : Option (ℕ × Bool) → Row → Row → Ordering
row_order o a b = ordering_then (by_column o a b) (nat_cmp a.id b.id)

-- the rows that a query asks: those in its ranges, in its order
pub record AreAsked (q : Query) (rows asked : List Row) : Type 0 where
  pub rearranged : IsPermutation (filter (lies q) rows) asked
  pub sorted : IsSorted (row_order q.order) asked

abbrev pub outcome_on : Query → Row → Outcome
outcome_on q r = outcome (values_of r) q.test

-- the first so many, or all
abbrev pub first_of : {A : Type 0} → Option ℕ → List A → List A
first_of None xs = xs
first_of (Some n) xs = take n xs

-- THE rows that a query gives, of those that it asks: the ones that meet its test, at most `take`
abbrev pub given_of : Query → List Row → List Row
given_of q asked = first_of q.take (filter (λ r. is_met (outcome_on q r)) asked)

-- the first error among outcomes
abbrev pub first_outcome_fault : List Outcome → Option Fault
first_outcome_fault [] = None
first_outcome_fault (failed k cs ∷ os) = Some (record { kind = k; message = cs })
first_outcome_fault (o ∷ os) = first_outcome_fault os

-- no rows where there is an error
abbrev pub rows_or_fault : List Row → Option Fault → RowList
rows_or_fault rows None = record { rows = rows; fault = None }
rows_or_fault rows (Some f) = record { rows = []; fault = Some f }

-- what a scan answers: the first error of the test in the query's order, else the rows that the
-- query gives
abbrev pub IsScanned : Query → List Row → RowList → Type 0
IsScanned q rows a = (asked : List Row) × AreAsked q rows asked
    × (a ≡ rows_or_fault (given_of q asked) (first_outcome_fault (map (outcome_on q) asked)))

-- how many rows a query gives
abbrev pub IsCounted : Query → List Row → ℕ → Type 0
IsCounted q rows n = (asked : List Row) × AreAsked q rows asked × (n ≡ length (given_of q asked))

-- what the values of a column that aren't blank come to, in the rows that a query gives
abbrev pub IsTotalled : Query → List Row → ℕ → Totals → Type 0
IsTotalled q rows column totals =
    (asked : List Row) × AreAsked q rows asked
    × SumsUp (numbers_in (map (λ r. value_at (values_of r) column) (given_of q asked))) totals
