-- What becomes of one table as a row is put or taken out, and of all of them.
use Rattle.std.specs.Prelude.{◌≡◌, ◌+◌, ℕ, Bool, true, false, List, None, Some, IfOk, OnErr, Result}
use Rattle.std.specs.BTreeMap.{IsOrdered}
use Rattle.std.specs.List.{list_any}
use Rattle.std.specs.Ordering.{nat_cmp}
use Rattle.fx_types.specs.Values.{Data}
use Rattle.fx_core.specs.declared.schema.Column.{Column}
use Rattle.fx_core.specs.declared.schema.Schema.{Schema}
use Rattle.sqlite.specs.Tree.{Trees}
use Rattle.sql_contents.specs.Contents.{contents_of}
use Rattle.sql_meanings.specs.Lines.{LinesOf}
use Rattle.row_keeper.specs.RowRules.{rule_in}
use Rattle.row_keeper.specs.Tables.{TableState, Tables, has_id, with_cells, with_row, without_row}
use Rattle.row_keeper.specs.declared.keeper.KeeperEnd.{KeeperEnd}
use Rattle.row_keeper.specs.declared.rows.Put.{Put}
use Rattle.row_keeper.specs.declared.rows.Put.TheVariants.{Id, NoRow, Refused}
use Rattle.row_changes.specs.Overlay.{AreOf, last_of, overlay}
use Rattle.row_changes.specs.declared.table.TableChanges.{TableChanges}
use Rattle.store_model.specs.Decoded.{state_in, tables_changed}
use Rattle.store_model.specs.Going.{GoesOn}
use Rattle.store_model.specs.Steady.{AreCounted, AreLinesOf, IsCounted, IsShapedSo}
use Rattle.store_model.specs.declared.counts.RowCount.{RowCount}

-- ---- one table

-- it is in order over the lines that are kept of it, and its rows are counted
pub record IsInOrder (kept : LinesOf) (columns : List Column) (c : TableChanges) (n : RowCount)
    : Type 0 where
  pub ordered : IsOrdered nat_cmp c.changed
  pub changes : AreOf kept c
  pub rows : AreLinesOf columns (overlay c kept)
  pub counted : IsCounted kept c n

-- the table as the transaction has made it
abbrev pub state_over : LinesOf → List Column → TableChanges → TableState
state_over kept columns c = state_in columns (overlay c kept) (last_of c)

-- a new row, where all tables have so many rows
abbrev pub NewRow : List Column → ℕ → List Data → Put → TableState → TableState → Type 0
NewRow columns all cells (Id id) s t = (rule_in columns s all None cells ≡ None)
    × (id ≡ s.last + 1) × (t ≡ with_row cells s)
NewRow columns all cells (Refused r) s t = (rule_in columns s all None cells ≡ Some r) × (t ≡ s)
NewRow columns all cells NoRow s t = ⊥

-- other cells in a row
abbrev pub OverRow : List Column → ℕ → ℕ → List Data → Put → TableState → TableState → Type 0
OverRow columns all id cells (Id n) s t = (n ≡ id) × (list_any (has_id id) s.rows ≡ true)
    × (rule_in columns s all (Some id) cells ≡ None) × (t ≡ with_cells id cells s)
OverRow columns all id cells NoRow s t = (list_any (has_id id) s.rows ≡ false) × (t ≡ s)
OverRow columns all id cells (Refused r) s t = (list_any (has_id id) s.rows ≡ true)
    × (rule_in columns s all (Some id) cells ≡ Some r) × (t ≡ s)

-- a row less
abbrev pub LessRow : ℕ → Bool → TableState → TableState → Type 0
LessRow id true s t = (list_any (has_id id) s.rows ≡ true) × (t ≡ without_row id s)
LessRow id false s t = (list_any (has_id id) s.rows ≡ false) × (t ≡ s)

-- the table goes on, is counted, and goes so; where no answer is given it stays
pub record GoesSo {T : Type 0} (kept : LinesOf) (columns : List Column) (c d : TableChanges)
    (m : RowCount) (Goes : T → TableState → TableState → Type 0) (r : Result T KeeperEnd)
    : Type 0 where
  pub goes : GoesOn kept columns c d
  pub counted : IsCounted kept d m
  pub ok : IfOk r (λ x. Goes x (state_over kept columns c) (state_over kept columns d))
  pub err : OnErr r (state_over kept columns d ≡ state_over kept columns c)

-- ---- all tables

-- they are those of a schema, in order, and their rows are counted
pub record AreKnown (trees : Trees) (schema : Schema) (cs : List TableChanges)
    (ns : List RowCount) : Type 0 where
  pub shaped : IsShapedSo (contents_of trees) schema cs
  pub counted : AreCounted (contents_of trees) 0 cs ns

-- they are known afterwards too, and go so, as they are told; where no answer is given they stay
pub record GoTold {T : Type 0} (trees : Trees) (schema : Schema) (cs ds : List TableChanges)
    (ms : List RowCount) (Goes : T → Tables → Tables → Type 0) (r : Result T KeeperEnd)
    : Type 0 where
  pub known : AreKnown trees schema ds ms
  pub ok : IfOk r (λ x. Goes x (tables_changed trees cs) (tables_changed trees ds))
  pub err : OnErr r (tables_changed trees ds ≡ tables_changed trees cs)
