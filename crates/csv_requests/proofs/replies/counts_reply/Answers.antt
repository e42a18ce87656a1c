use Rattle.std.proofs.Common.{◌∙◌, ap, refl}
use Rattle.std.proofs.lemmas.Result.{IfOk-weaker}
use Rattle.app_wire.specs.ReplyBytes.{reply}
use Rattle.csv_requests.proofs.replies.counts_reply.Goals as goal

pub returns-clause-said : goal.returns-clause-said
returns-clause-said c =
    let text = rw c.in_ok-json.ensures at c.in_ok-body.ensures.text in
    IfOk-weaker c.accept.result _ _ (λ r h. h ∙ ap (reply 200) (c.deref.ensures ∙ text refl)) c.accept.ensures.said
