use Rattle.std.proofs.Common.{map, ap, ◌∙◌}
use Rattle.std.proofs.Math.Logic.{∥∥₁_map}
use Rattle.office.specs.NamedReply.{reply_row}
use Rattle.office.proofs.Replies.{named_is}
use Rattle.office.proofs.named.named_body.Goals as goal

pub returns-clause-body : goal.returns-clause-body
returns-clause-body g c = λ tables heard.
    let rows = map reply_row c.in_ok-rows.rows.items in
    (rows, ∥∥₁_map c.requires.right (λ right. c.in_ok-rows.ensures.list right tables heard), c.in_ok-named_json.ensures ∙ named_is c.deref.result.now rows (ap (map reply_row) c.deref.ensures.value))

pub returns-clause-right : goal.returns-clause-right
returns-clause-right g c = ∥∥₁_map c.requires.right c.kept_list.ensures.right

pub returns-in_err-rows-clause-right : goal.returns-in_err-rows-clause-right
returns-in_err-rows-clause-right g c = ∥∥₁_map c.requires.right c.kept_list.ensures.right

pub returns-in_err-named_json-clause-right : goal.returns-in_err-named_json-clause-right
returns-in_err-named_json-clause-right g c = ∥∥₁_map c.requires.right c.kept_list.ensures.right

pub returns-clause-visits : goal.returns-clause-visits
returns-clause-visits g c = λ room t told. ∥∥₁_map c.requires.right (λ right. c.in_ok-rows.ensures.visits right room t told)
