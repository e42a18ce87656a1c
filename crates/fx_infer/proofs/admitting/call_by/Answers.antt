use Rattle.std.proofs.Common.{◌∙◌, List, ap, map, subst}
use Rattle.fx_typing.specs.Calls.{called}
use Rattle.fx_typing.specs.Parts.{unless_rule}
use Rattle.fx_typing.specs.Typing.{is_too_deep}
use Rattle.fx_typing.specs.Answers.{IsAnswerOf}
use Rattle.fx_typing.specs.TypedView.{typed}
use Rattle.fx_resolve.specs.MeaningView.{place_view}
use Rattle.fx_resolve.specs.PartView.{judged_part}
use Rattle.fx_resolve.specs.PlanView.{tree_head}
use Rattle.fx_resolve.specs.SettingView.{setting}
use Rattle.fx_resolve.specs.declared.parts.Part.{Part}
use Rattle.fx_infer.proofs.admitting.call_by.Goals as goal

pub returns : goal.returns
returns c =
    let p = place_view c.args.at.now in
    let s = setting c.args.scopes.now c.args.stand in
    let r = called p s c.args.name.now (map judged_part c.args.all.items) in
    let e = c.is_too_deep-too_deep.ensures ∙ ap (λ (ys : List Part). is_too_deep p s (tree_head c.args.whole.now) (map judged_part ys)) c.deref.ensures.value in
    subst (λ b. IsAnswerOf typed (unless_rule b 13 r) c.unless.result) e (c.unless.ensures r (c.call.ensures c.args.scopes.now))
