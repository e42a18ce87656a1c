use Rattle.session_views.proofs.OneVisits.{one_items_visit}
use Rattle.session_views.proofs.laws.items_visits_are_one.Goals as goal

pub returns : goal.returns
returns c = one_items_visit c.one_value.ensures c.one_fresh_at.ensures c.item_visits_are_one.ensures
