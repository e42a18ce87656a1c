use Rattle.fx_plan.proofs.Sizes.{settled_small}
use Rattle.fx_plan.proofs.settling_laws.settled_are_no_more.Goals as goal

pub returns : goal.returns
returns c = settled_small
