-- How tables go on in a transaction: one of them at a time, by a row more, other cells in a row, or
-- a row less.
use Rattle.std.specs.Prelude.{◌≡◌, ℕ, ◌≤◌, List, None, Some, set, slice_get}
use Rattle.std.specs.BTreeMap.{IsOrdered}
use Rattle.std.specs.Ordering.{nat_cmp}
use Rattle.fx_types.specs.Values.{Data}
use Rattle.fx_core.specs.declared.schema.Column.{Column}
use Rattle.fx_core.specs.declared.schema.Schema.{Schema}
use Rattle.fx_core.specs.declared.schema.TableShape.{TableShape}
use Rattle.sqlite.specs.Tree.{Trees}
use Rattle.sql_meanings.specs.Lines.{LinesOf}
use Rattle.sql_contents.specs.Contents.{contents_of, lines_in}
use Rattle.row_keeper.specs.Tables.{state_at, with_cells, with_row, with_state, without_row}
use Rattle.row_lines.specs.FromBytes.{cells_in}
use Rattle.row_changes.specs.Moves.{Adds, Puts}
use Rattle.row_changes.specs.Overlay.{AreOf, body_at, last_of, overlay}
use Rattle.row_changes.specs.declared.table.TableChanges.{TableChanges}
use Rattle.store_model.specs.Decoded.{state_in, tables_changed}
use Rattle.store_model.specs.Steady.{AreLinesOf, IsLineOf, IsShapedSo}

-- the changes of a table go on while its transaction does, over the lines that are kept of it
pub record GoesOn (kept : LinesOf) (columns : List Column) (c d : TableChanges) : Type 0 where
  pub first : d.first ≡ c.first
  pub ordered : IsOrdered nat_cmp d.changed
  pub changes : AreOf kept d
  pub rows : AreLinesOf columns (overlay d kept)

-- then all tables stay in order, and that one alone is told otherwise than before
abbrev pub GoesTold : Type 0
GoesTold = (trees : Trees) (schema : Schema) (cs : List TableChanges) (tab : ℕ) (t : TableShape)
    (c d : TableChanges) → IsShapedSo (contents_of trees) schema cs
    → slice_get schema.tables tab ≡ Some t → slice_get cs tab ≡ Some c
    → GoesOn (lines_in trees tab) t.columns c d
    → IsShapedSo (contents_of trees) schema (set cs tab d)
    × (state_at (tables_changed trees cs).states tab
    ≡ state_in t.columns (overlay c (lines_in trees tab)) (last_of c))
    × (tables_changed trees (set cs tab d) ≡ with_state (tables_changed trees cs) tab
    (state_in t.columns (overlay d (lines_in trees tab)) (last_of d)))

-- the body of a line of these columns, whatever its number
abbrev pub IsBodyOf : List Column → List ℕ → Type 0
IsBodyOf columns body = (id : ℕ) → 1 ≤ id → IsLineOf columns (id, body)

-- a row more
abbrev pub AddsRow : Type 0
AddsRow = (kept : LinesOf) (columns : List Column) (c d : TableChanges) (body : List ℕ) (cells : List Data) → AreOf kept c → AreLinesOf columns (overlay c kept)
    → Adds c d body → d.first ≡ c.first → IsOrdered nat_cmp d.changed → IsBodyOf columns body → cells_in columns body ≡ cells
    → GoesOn kept columns c d
    × (state_in columns (overlay d kept) (last_of d)
    ≡ with_row cells (state_in columns (overlay c kept) (last_of c)))

-- other cells in a row
abbrev pub PutsRow : Type 0
PutsRow = (kept : LinesOf) (columns : List Column) (c d : TableChanges) (id : ℕ) (was body : List ℕ) (cells : List Data) → AreOf kept c → AreLinesOf columns (overlay c kept)
    → body_at id (overlay c kept) ≡ Some was → Puts c d id was (Some body) → d.first ≡ c.first → IsOrdered nat_cmp d.changed
    → IsBodyOf columns body → cells_in columns body ≡ cells
    → GoesOn kept columns c d
    × (state_in columns (overlay d kept) (last_of d)
    ≡ with_cells id cells (state_in columns (overlay c kept) (last_of c)))

-- a row less
abbrev pub RemovesRow : Type 0
RemovesRow = (kept : LinesOf) (columns : List Column) (c d : TableChanges) (id : ℕ) (was : List ℕ) → AreOf kept c → AreLinesOf columns (overlay c kept)
    → body_at id (overlay c kept) ≡ Some was → Puts c d id was None → d.first ≡ c.first → IsOrdered nat_cmp d.changed
    → GoesOn kept columns c d
    × (state_in columns (overlay d kept) (last_of d)
    ≡ without_row id (state_in columns (overlay c kept) (last_of c)))
