use Rattle.fx_plan.proofs.Placing.{sketched}
use Rattle.fx_plan.proofs.laws.sketches_can_plan.Goals as goal

pub returns : goal.returns
returns c = sketched
