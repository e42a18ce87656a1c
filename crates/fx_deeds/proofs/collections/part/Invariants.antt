use Rattle.std.proofs.Common.{length}
use Rattle.fx_types.specs.ValueView.{view}
use Rattle.fx_deeds.proofs.Gathering.{IsPart}
use Rattle.fx_deeds.proofs.collections.part.Given as goal

abbrev pub invariant-loop-row : goal.invariant-loop-row
invariant-loop-row l = IsPart l.rows (view l.sought) l.before l.rest

abbrev pub decreases-loop-row : goal.decreases-loop-row
decreases-loop-row l = length l.rest
