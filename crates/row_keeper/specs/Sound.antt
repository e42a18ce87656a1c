-- What holds of the rows of a table that is seen.
use Rattle.std.specs.Prelude.{ℕ, ◌^◌, ◌<◌, ◌≤◌, Bool, List, length}
use Rattle.std.specs.List.{AllByRecursion}
use Rattle.fx_core.specs.declared.schema.Column.{Column}
use Rattle.fx_value.specs.Keys.{IsProper, key_bytes}
use Rattle.row_queries.specs.Ranges.{in_ranges}
use Rattle.row_queries.specs.TableRows.{AreCellsOf, AreInIdOrder, value_at, values_of}
use Rattle.row_queries.specs.declared.ranges.KeyRange.{KeyRange}
use Rattle.row_queries.specs.declared.rows.Row.{Row}
use Rattle.row_keeper.specs.TableView.{TableView}
use Rattle.row_keeper.specs.Tables.{TableState}

-- a row with a number from 1, and cells that fit the columns and are in their ranges
pub record IsSoundRow (columns : List Column) (r : Row) : Type 0 where
  pub id : 1 ≤ r.id
  pub fit : AreCellsOf columns r.cells
  pub proper : AllByRecursion IsProper r.cells

pub record IsSoundState (columns : List Column) (s : TableState) : Type 0 where
  pub rows : AllByRecursion (IsSoundRow columns) s.rows
  pub rising : AreInIdOrder s.rows
  pub given : AllByRecursion (λ (r : Row). r.id ≤ s.last) s.rows
  pub bounded : s.last < 2 ^ 32
  pub few : length s.rows ≤ 200000

-- now, and as the transaction began
pub record IsSoundTable (t : TableView) : Type 0 where
  pub narrow : length t.columns ≤ 63
  pub now : IsSoundState t.columns t.now
  pub then : IsSoundState t.columns t.then

-- whether a row's key in a column lies in ranges
abbrev pub lies_among : ℕ → List KeyRange → Row → Bool
lies_among column ranges r = in_ranges ranges (key_bytes (value_at (values_of r) column))
