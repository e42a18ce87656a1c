use Rattle.std.proofs.Common.{refl}
use Rattle.session_views.proofs.items.item_view.Goals as goal

pub returns-clause-shows : goal.returns-clause-shows
returns-clause-shows g c = λ moment tables today heard. (refl, c.item_id-id.ensures, c.in_ok-shown.ensures.shows moment tables today heard)

pub returns-clause-visits : goal.returns-clause-visits
returns-clause-visits g c = c.in_ok-shown.ensures.visits
