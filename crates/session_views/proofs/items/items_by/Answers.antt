use Rattle.std.proofs.Common.{sym, ◌∙◌}
use Rattle.session_views.proofs.items.items_by.Goals as goal

pub returns-in_ok-items-clause-shows : goal.returns-in_ok-items-clause-shows
returns-in_ok-items-clause-shows g c = λ moment tables today heard. (sym c.is_seen_at.ensures ∙ c.if-is_seen_at.true, c.in_ok-items.ensures.shows moment tables today heard)
