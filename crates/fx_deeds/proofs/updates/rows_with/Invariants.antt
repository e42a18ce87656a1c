use Rattle.std.proofs.Common.{length}
use Rattle.fx_types.specs.Types.{column_list}
use Rattle.fx_deeds.proofs.Updating.{IsWith}
use Rattle.fx_deeds.proofs.updates.rows_with.Given as goal

abbrev pub invariant-loop-row : goal.invariant-loop-row
invariant-loop-row l = IsWith (column_list l.columns) l.rows l.kept l.changes l.made l.wanted l.left l.rest

abbrev pub decreases-loop-row : goal.decreases-loop-row
decreases-loop-row l = length l.rest
