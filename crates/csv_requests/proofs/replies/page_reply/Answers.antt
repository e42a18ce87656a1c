use Rattle.std.proofs.Common.{◌∙◌, ap, length, refl}
use Rattle.std.specs.Prelude.{nat_lt}
use Rattle.std.proofs.lemmas.Result.{IfOk-weaker}
use Rattle.app_wire.specs.ReplyBytes.{reply}
use Rattle.serde_json.specs.Written.{compact_text}
use Rattle.csv_requests.specs.Replies.{page_data}
use Rattle.csv_requests.proofs.replies.page_reply.Goals as goal

pub returns-clause-said : goal.returns-clause-said
returns-clause-said c =
    let columns = c.args.shape.now.columns in
    let more = nat_lt 1000 (length c.args.rows.now) in
    let text = rw c.in_ok-json.ensures at c.in_ok-body.ensures.text in
    IfOk-weaker c.accept.result _ _
    (λ r h. h ∙ ap (reply 200) (c.deref.ensures ∙ text refl ∙ ap (λ rows. compact_text (page_data columns c.args.after rows more)) c.first_rows-shown.ensures))
    c.accept.ensures.said
