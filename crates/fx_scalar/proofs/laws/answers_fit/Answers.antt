use Rattle.fx_scalar.proofs.AnswerFits.{answers_fit}
use Rattle.fx_scalar.proofs.laws.answers_fit.Goals as goal

pub returns : goal.returns
returns c = answers_fit
