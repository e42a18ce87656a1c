use Rattle.session_views.proofs.Replies.{one_items_reply}
use Rattle.session_views.proofs.laws.one_items_reply.Goals as goal

pub returns : goal.returns
returns c = one_items_reply c.one_items.ensures
