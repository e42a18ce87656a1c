use Rattle.std.proofs.Common.{◌≡◌, drop, take}
use Rattle.app_moves.specs.Broken.{broken_behind, broken_move}
use Rattle.app_moves.proofs.broken.broken_move.Given as goal

abbrev pub invariant-loop-place : goal.invariant-loop-place
invariant-loop-place l = broken_behind l.olds l.news l.moves (take l.place l.moves) (drop l.place l.moves) ≡ broken_move l.olds l.news l.moves
