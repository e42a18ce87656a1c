use Rattle.std.proofs.Common.{◌∙◌, ap, sym}
use Rattle.serde_json.specs.Data.{member, no_members}
use Rattle.serde_json.specs.View.{view}
use Rattle.numbered_requests.specs.GivenValues.{member_value}
use Rattle.numbered_requests.proofs.JsonValues.{is_one, not_one}
use Rattle.numbered_requests.proofs.values.member_value.Goals as goal

pub returns-then-len-ne1 : goal.returns-then-len-ne1
returns-then-len-ne1 c = not_one c.args.members.now.entries (λ e. c.if-len-ne1.true (c.len.ensures.len ∙ e))

pub returns-in-Some : goal.returns-in-Some
returns-in-Some c =
    c.text_value.ensures
    ∙ ap (λ k. member_value (member k (view c.in-Some.json.now) no_members)) c.as_str.ensures.value
    ∙ sym (is_one c.args.members.now.entries c.in-Some.key.now c.in-Some.json.now (sym c.len.ensures.len ∙ c.if-len-ne1.false) c.in-Some.ensures.first)
