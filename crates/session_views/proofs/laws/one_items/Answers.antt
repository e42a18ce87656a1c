use Rattle.session_views.proofs.Single.{one_items}
use Rattle.session_views.proofs.laws.one_items.Goals as goal

pub returns : goal.returns
returns c = one_items c.one_value.ensures c.one_fresh_at.ensures
