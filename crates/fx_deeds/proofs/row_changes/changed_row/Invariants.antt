use Rattle.std.proofs.Common.{length}
use Rattle.fx_deeds.proofs.RowSteps.{IsChanging}
use Rattle.fx_deeds.proofs.row_changes.changed_row.Given as goal

abbrev pub invariant-loop-column : goal.invariant-loop-column
invariant-loop-column l = IsChanging l.columns l.changes l.row l.items.items l.rest

abbrev pub decreases-loop-column : goal.decreases-loop-column
decreases-loop-column l = length l.rest
