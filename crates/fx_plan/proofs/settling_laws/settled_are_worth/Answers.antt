use Rattle.fx_plan.proofs.Keeping.{searches_worth, settled_worth}
use Rattle.fx_plan.proofs.settling_laws.settled_are_worth.Goals as goal

pub returns : goal.returns
returns c = record { queries = settled_worth; searches = searches_worth }
