use Rattle.std.proofs.Common.{◌≡◌, take}
use Rattle.app_moves.specs.Places.{table_moves}
use Rattle.app_moves.proofs.places.table_moves.Given as goal

abbrev pub invariant-loop-new : goal.invariant-loop-new
invariant-loop-new l = l.all.items ≡ table_moves l.olds.tables l.moves (take l.new-index l.news.tables)
