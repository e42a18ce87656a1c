use Rattle.office.proofs.Isolation.{ReplyLaws}
use Rattle.office.proofs.OneAnswer.{AnswerLaws, one_answer}
use Rattle.office.proofs.laws.one_answer.Goals as goal

pub returns : goal.returns
returns c =
    let replies : ReplyLaws = record {
      fresh = c.one_fresh_at.ensures;
      holds = c.fitting_holds.ensures;
      view = c.one_view_reply.ensures;
      items = c.one_items_reply.ensures;
    } in
    let laws : AnswerLaws = record { replies = replies; opening = c.one_opening.ensures; outcome = c.one_outcome.ensures; edit = c.one_outcome-2.ensures } in
    one_answer laws c.one_route.ensures
