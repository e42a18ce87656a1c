use Rattle.std.proofs.Common.{◌≡◌, take}
use Rattle.row_keeper.proofs.schemas.are_same_tables.Given as goal

abbrev pub invariant-loop-place : goal.invariant-loop-place
invariant-loop-place l = take l.place l.a ≡ take l.place l.b
