use Rattle.std.proofs.Common.{◌≡◌, take}
use Rattle.row_keeper.specs.Kept.{columns_kept, columns_shaped}
use Rattle.sql_keeper.proofs.moving.moved_tables.Given as goal

abbrev pub invariant-loop-place : goal.invariant-loop-place
invariant-loop-place l = columns_kept l.made.items ≡ columns_shaped (take l.place l.shapes)
