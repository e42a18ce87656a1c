use Rattle.fx_scalar.proofs.OneAnswer.{one_answer}
use Rattle.fx_scalar.proofs.laws.one_answer.Goals as goal

pub returns : goal.returns
returns c = one_answer
