use Rattle.std.proofs.Common.{◌≡◌, length}
use Rattle.recalc.proofs.Finding.{ArePlacesSoFar}
use Rattle.recalc.proofs.trees.old_places.Given as goal

abbrev pub invariant-loop-cell : goal.invariant-loop-cell
invariant-loop-cell l = record {
  places : ArePlacesSoFar l.old l.new l.places.items;
  long : length l.places.items ≡ l.cell;
}
