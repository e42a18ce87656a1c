use Rattle.session_views.proofs.OneVisits.{one_screen_visits}
use Rattle.session_views.proofs.laws.screen_visits_are_one.Goals as goal

pub returns : goal.returns
returns c = one_screen_visits c.one_value.ensures c.one_fresh_at.ensures c.item_visits_are_one.ensures
