use Rattle.std.proofs.Common.{◌≡◌, length}
use Rattle.recalc.proofs.Finding.{AreOldSoFar}
use Rattle.recalc.proofs.carrying.old_cells.Given as goal

abbrev pub invariant-loop-cell : goal.invariant-loop-cell
invariant-loop-cell l = record {
  cells : AreOldSoFar l.old l.new l.cells.items;
  long : length l.cells.items ≡ l.cell;
}
