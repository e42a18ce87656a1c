use Rattle.fx_plan.proofs.Retyped.{types_limited}
use Rattle.fx_plan.proofs.laws.limited_types.Goals as goal

pub returns : goal.returns
returns c = types_limited
