use Rattle.fx_scalar.proofs.Comparing.{fitting_applies}
use Rattle.fx_scalar.proofs.laws.fitting_can_apply.Goals as goal

pub returns : goal.returns
returns c = fitting_applies
