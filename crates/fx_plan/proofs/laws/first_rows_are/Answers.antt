use Rattle.fx_plan.proofs.Firsts.{first_rows_are}
use Rattle.fx_plan.proofs.laws.first_rows_are.Goals as goal

pub returns : goal.returns
returns c = first_rows_are
