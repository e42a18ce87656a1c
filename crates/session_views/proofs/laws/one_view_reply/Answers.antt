use Rattle.session_views.proofs.Replies.{one_view_reply}
use Rattle.session_views.proofs.laws.one_view_reply.Goals as goal

pub returns : goal.returns
returns c = one_view_reply c.one_view.ensures
