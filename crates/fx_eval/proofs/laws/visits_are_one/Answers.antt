use Rattle.fx_eval.proofs.Single.{one_visits}
use Rattle.fx_eval.proofs.laws.visits_are_one.Goals as goal

pub returns : goal.returns
returns c = one_visits c.one_value.ensures
