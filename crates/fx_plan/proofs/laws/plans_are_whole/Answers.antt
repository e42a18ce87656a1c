use Rattle.fx_plan.proofs.Wholes.{plans_are_whole}
use Rattle.fx_plan.proofs.laws.plans_are_whole.Goals as goal

pub returns : goal.returns
returns c = plans_are_whole c.compare_is_total.ensures.total
