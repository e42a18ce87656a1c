use Rattle.fx_plan.proofs.Retyping.{searches_typed, settled_typed}
use Rattle.fx_plan.proofs.settling_laws.settled_have_types.Goals as goal

pub returns : goal.returns
returns c = record { queries = settled_typed; searches = searches_typed }
