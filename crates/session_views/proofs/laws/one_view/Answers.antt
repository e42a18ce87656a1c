use Rattle.session_views.proofs.Single.{one_view}
use Rattle.session_views.proofs.laws.one_view.Goals as goal

pub returns : goal.returns
returns c = one_view c.one_value.ensures c.one_fresh_at.ensures
