use Rattle.fx_plan.proofs.Testing.{tests_are_conditions}
use Rattle.fx_plan.proofs.laws.tests_are_conditions.Goals as goal

pub returns : goal.returns
returns c = tests_are_conditions c.compare_is_total.ensures.total
