-- What holds of a table's parts at any time.
use Rattle.std.specs.Prelude.{◌≡◌, ℕ, ◌≤◌, List, length, Option, Some, None}
use Rattle.std.specs.List.{AllByRecursion}
use Rattle.fx_types.specs.Values.{Data}
use Rattle.fx_core.specs.declared.schema.Column.{Column}
use Rattle.fx_value.specs.Keys.{IsProper}
use Rattle.row_queries.specs.TableRows.{AreCellsOf}
use Rattle.row_keeper.specs.Covered.{Agrees, NoneAbove, covered_of}
use Rattle.row_keeper.specs.Slots.{now_at, rows_now, rows_then, then_at}
use Rattle.row_keeper.specs.declared.index.Mark.{Mark}
use Rattle.row_keeper.specs.declared.row_slots.Slot.{Slot}

-- numbers begin at 1, cells fit the columns, and values are in their ranges
abbrev pub IsGood : List Column → ℕ → Option (List Data) → Type 0
IsGood columns i None = Unit {0}
IsGood columns i (Some cells) = (1 ≤ i) × AreCellsOf columns cells × AllByRecursion IsProper cells

-- how many rows there are, and the last number that was given
pub record IsTallied (rows : List (ℕ × Slot)) (last count first first_count : ℕ) : Type 0 where
  pub above : NoneAbove last (now_at rows)
  pub before : NoneAbove first (then_at rows)
  pub later : first ≤ last
  pub counted : count ≡ length (rows_now rows)
  pub counted_then : first_count ≡ length (rows_then rows)
  pub few : count ≤ 200000
  pub few_then : first_count ≤ 200000

pub record IsWholeIndex (columns : List Column) (covered : List ℕ) (rows : List (ℕ × Slot))
    (es : List (((ℕ × List ℕ) × ℕ) × Mark)) (last count first first_count : ℕ) : Type 0 where
  pub narrow : length columns ≤ 63
  pub covered_is : covered ≡ covered_of columns
  pub agrees : Agrees covered rows es
  pub tallied : IsTallied rows last count first first_count
  pub good : (i : ℕ) → IsGood columns i (now_at rows i)
  pub good_then : (i : ℕ) → IsGood columns i (then_at rows i)
