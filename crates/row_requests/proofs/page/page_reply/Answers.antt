use Rattle.std.proofs.Common.{◌∙◌, ap, length, subst, sym}
use Rattle.std.specs.Prelude.{nat_lt}
use Rattle.std.proofs.lemmas.Result.{IfOk-weaker}
use Rattle.app_wire.specs.ReplyBytes.{reply}
use Rattle.serde_json.specs.Written.{compact_text}
use Rattle.row_requests.specs.Page.{page_data}
use Rattle.row_requests.specs.PageRows.{AreShown}
use Rattle.row_requests.proofs.Floats.{page_has_none}
use Rattle.row_requests.proofs.Pages.{first_shown}
use Rattle.row_requests.proofs.page.page_reply.Goals as goal

pub page_json-requires : goal.page_json-requires
page_json-requires c = subst (AreShown c.args.columns.now) (sym c.first_rows-shown.ensures) (first_shown c.args.columns.now c.args.rows.now 100 c.requires)

pub returns-clause-said : goal.returns-clause-said
returns-clause-said c =
    let columns = c.args.columns.now in
    let more = nat_lt 100 (length c.args.rows.now) in
    let shown : AreShown columns c.first_rows-shown.result.now = subst (AreShown columns) (sym c.first_rows-shown.ensures) (first_shown columns c.args.rows.now 100 c.requires) in
    let text = rw c.in_ok-json.ensures at c.in_ok-body.ensures.text in
    IfOk-weaker c.accept.result _ _
    (λ r h. h ∙ ap (reply 200) (c.deref.ensures ∙ text (page_has_none columns c.first_rows-shown.result.now more shown) ∙ ap (λ rows. compact_text (page_data columns rows more)) c.first_rows-shown.ensures))
    c.accept.ensures.said
