use Rattle.fx_plan.proofs.Limiting.{sketches_limited}
use Rattle.fx_plan.proofs.laws.limited_sketches.Goals as goal

pub returns : goal.returns
returns c = sketches_limited
