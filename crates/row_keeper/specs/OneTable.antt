-- What becomes of one table.
use Rattle.std.specs.Prelude.{◌≡◌, ℕ, ◌+◌, Bool, true, false, List, set, slice_get, Some, None}
use Rattle.std.specs.List.{list_any}
use Rattle.fx_types.specs.Values.{Data}
use Rattle.row_keeper.specs.RowRules.{rule_in}
use Rattle.row_keeper.specs.TableView.{TableView}
use Rattle.row_keeper.specs.Tables.{TableState, has_id, with_cells, with_row, without_row}
use Rattle.row_keeper.specs.declared.rows.Put.{Put}
use Rattle.row_keeper.specs.declared.rows.Put.TheVariants.{Id, NoRow, Refused}

-- other rows now
abbrev pub with_now : TableView → TableState → TableView
with_now t s = record { columns = t.columns; now = s; then = t.then }

-- a transaction ends, with its changes and without them
abbrev pub view_settled : TableView → TableView
view_settled t = record { columns = t.columns; now = t.now; then = t.now }

abbrev pub view_restored : TableView → TableView
view_restored t = record { columns = t.columns; now = t.then; then = t.then }

-- a new row, where all tables have so many rows
abbrev pub PutsNew : ℕ → List Data → Put → TableView → TableView → Type 0
PutsNew all cells (Id id) a b = (rule_in a.columns a.now all None cells ≡ None)
    × (id ≡ a.now.last + 1) × (b ≡ with_now a (with_row cells a.now))
PutsNew all cells (Refused r) a b = (rule_in a.columns a.now all None cells ≡ Some r) × (b ≡ a)
PutsNew all cells NoRow a b = ⊥

-- other cells in a row
abbrev pub PutsOver : ℕ → ℕ → List Data → Put → TableView → TableView → Type 0
PutsOver all id cells (Id n) a b =
    (n ≡ id) × (list_any (has_id id) a.now.rows ≡ true)
    × (rule_in a.columns a.now all (Some id) cells ≡ None)
    × (b ≡ with_now a (with_cells id cells a.now))
PutsOver all id cells NoRow a b = (list_any (has_id id) a.now.rows ≡ false) × (b ≡ a)
PutsOver all id cells (Refused r) a b = (list_any (has_id id) a.now.rows ≡ true)
    × (rule_in a.columns a.now all (Some id) cells ≡ Some r) × (b ≡ a)

-- a row less
abbrev pub TakesOut : ℕ → Bool → TableView → TableView → Type 0
TakesOut id true a b = (list_any (has_id id) a.now.rows ≡ true)
    × (b ≡ with_now a (without_row id a.now))
TakesOut id false a b = (list_any (has_id id) a.now.rows ≡ false) × (b ≡ a)

-- the table at a place goes so, and the others stay
pub record ChangesAt (place : ℕ) (P : TableView → TableView → Type 0) (old new : List TableView) :
    Type 0 where
  pub before : TableView
  pub after : TableView
  pub is_there : slice_get old place ≡ Some before
  pub goes : P before after
  pub stands : new ≡ set old place after
