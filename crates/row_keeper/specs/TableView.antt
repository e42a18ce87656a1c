-- What a table is seen as.
use Rattle.std.specs.Prelude.{List, map}
use Rattle.fx_core.specs.declared.schema.Column.{Column}
use Rattle.row_keeper.specs.Tables.{TableState}

-- a table with its columns, now and as the transaction began
pub record TableView : Type 0 where
  pub columns : List Column
  pub now : TableState
  pub then : TableState

-- the states of tables, now and as the transaction began
abbrev pub states_now : List TableView → List TableState
states_now tables = map (λ (t : TableView). t.now) tables

abbrev pub states_then : List TableView → List TableState
states_then tables = map (λ (t : TableView). t.then) tables
