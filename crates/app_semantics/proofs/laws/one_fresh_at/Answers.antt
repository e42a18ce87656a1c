use Rattle.app_semantics.proofs.FreshAt.{one_fresh_at}
use Rattle.app_semantics.proofs.laws.one_fresh_at.Goals as goal

pub returns : goal.returns
returns c = one_fresh_at c.one_value.ensures
