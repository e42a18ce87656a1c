use Rattle.std.proofs.Common.{◌∙◌}
use Rattle.std.proofs.lemmas.Result.{IfOk-weaker}
use Rattle.numbered_requests.proofs.Refusals.{plain_reply}
use Rattle.numbered_requests.proofs.reply.Reply.refuse_plain.Goals as goal

pub returns-clause-said : goal.returns-clause-said
returns-clause-said c = IfOk-weaker c.refuse.result _ _ (λ r h. h ∙ plain_reply c.args.code c.requires) c.refuse.ensures.said
