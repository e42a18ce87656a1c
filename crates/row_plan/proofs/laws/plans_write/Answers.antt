use Rattle.row_plan.proofs.WrittenLemmas.{plans_write}
use Rattle.row_plan.proofs.laws.plans_write.Goals as goal

pub returns : goal.returns
returns c = plans_write
