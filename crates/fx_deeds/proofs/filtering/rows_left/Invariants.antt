use Rattle.std.proofs.Common.{length}
use Rattle.fx_deeds.proofs.Lefting.{LeavesTo}
use Rattle.fx_deeds.specs.RemainingRows.{AreRecords}
use Rattle.fx_deeds.proofs.filtering.rows_left.Given as goal

abbrev pub invariant-loop-row : goal.invariant-loop-row
invariant-loop-row l = record {
  records : AreRecords l.wanted;
  left : LeavesTo l.rows l.kept l.left l.wanted l.rest;
}

abbrev pub decreases-loop-row : goal.decreases-loop-row
decreases-loop-row l = length l.rest
