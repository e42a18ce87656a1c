use Rattle.std.proofs.Common.{◌∙◌, ap₂}
use Rattle.std.proofs.lemmas.Result.{IfOk-weaker}
use Rattle.numbered_requests.specs.Replies.{refusal_reply}
use Rattle.csv_requests.specs.Refusals.{import_refusal}
use Rattle.csv_requests.proofs.Names.{key_is}
use Rattle.csv_requests.proofs.refusals.refuse_key.Goals as goal

pub returns-clause-said : goal.returns-clause-said
returns-clause-said c =
    IfOk-weaker c.refuse.result _ _ (λ r h. h ∙ ap₂ (λ name rule. refusal_reply (import_refusal 0 name rule)) c.as_str.ensures.scalars key_is) c.refuse.ensures.said
