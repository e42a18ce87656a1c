use Rattle.std.proofs.Common.{◌≡◌, take}
use Rattle.row_keeper.specs.Kept.{columns_kept, columns_shaped}
use Rattle.row_keeper.specs.MovedTables.{moved_states}
use Rattle.row_keeper.specs.TableView.{states_now}
use Rattle.row_keeper.proofs.moved.moved_tables.Given as goal

abbrev pub invariant-loop-place : goal.invariant-loop-place
invariant-loop-place l = record {
  columns : columns_kept l.made.items ≡ columns_shaped (take l.place l.shapes);
  now : states_now l.made.items ≡ moved_states (states_now l.tables) (take l.place l.moves);
}
