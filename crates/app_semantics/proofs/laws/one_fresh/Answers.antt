use Rattle.app_semantics.proofs.Freshness.{one_fresh}
use Rattle.app_semantics.proofs.laws.one_fresh.Goals as goal

pub returns : goal.returns
returns c = one_fresh c.one_value.ensures
