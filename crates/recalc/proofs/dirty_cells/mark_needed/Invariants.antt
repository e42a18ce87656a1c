use Rattle.recalc.proofs.Marking.{IsClosedFrom}
use Rattle.recalc.proofs.dirty_cells.mark_needed.Given as goal

abbrev pub decreases-loop-place : goal.decreases-loop-place
decreases-loop-place l = l.place

abbrev pub invariant-loop-place : goal.invariant-loop-place
invariant-loop-place l = IsClosedFrom l.app l.cache l.fn.marks l.place l.marks
