use Rattle.std.proofs.Common.{◌≡◌, drop}
use Rattle.row_keeper.specs.Kept.{columns_kept}
use Rattle.row_keeper.specs.MovedTables.{broken_table}
use Rattle.row_keeper.specs.TableView.{states_now}
use Rattle.row_keeper.proofs.moved.judge.Given as goal

abbrev pub invariant-loop-place : goal.invariant-loop-place
invariant-loop-place l = broken_table l.place (columns_kept (drop l.place l.tables)) (states_now (drop l.place l.tables)) ≡ broken_table 0 (columns_kept l.tables) (states_now l.tables)
