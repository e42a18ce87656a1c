use Rattle.std.proofs.Common.{ap, map, not, subst, ◌∙◌}
use Rattle.fx_typing.specs.Breaks.{gives_variables}
use Rattle.fx_typing.specs.Deeds.{acted, until_settled}
use Rattle.fx_typing.specs.Parts.{unless_rule}
use Rattle.fx_typing.specs.Answers.{IsAnswerOf}
use Rattle.fx_typing.specs.TypedView.{typed}
use Rattle.fx_resolve.specs.PartView.{judged_part}
use Rattle.fx_call_typing.proofs.calls.act_on_screen.Goals as goal

pub returns : goal.returns
returns c =
    let n = c.args.at.now.names.now in
    let s = c.args.at.now.screen in
    let qs = map judged_part c.args.all.items in
    let a = c.args.acting in
    let r = acted n s a qs in
    let t = until_settled c.args.at.now.settled r in
    let known = c.gives_variables-known.ensures ∙ ap (λ l. gives_variables n s a (map judged_part l)) c.as_slice.ensures.value in
    subst (λ b. IsAnswerOf typed (unless_rule (not b) 15 t) c.unless.result) known
    (c.unless.ensures t (c.until_settled-found.ensures r c.act-found.ensures))
