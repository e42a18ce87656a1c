use Rattle.fx_plan.proofs.Missed.{no_row_is_missed}
use Rattle.fx_plan.proofs.ranges.no_row_is_missed.Goals as goal

pub returns : goal.returns
returns c = no_row_is_missed
