use Rattle.std.proofs.Common.{◌≡◌, ◌∙◌, Err, ap, map, subst, sym}
use Rattle.std.proofs.lemmas.Result.{IfOk-weaker}
use Rattle.fx_typing.specs.Calls.{called_by}
use Rattle.fx_typing.specs.Details.{limit_of}
use Rattle.fx_typing.specs.Answers.{IsAnswerOf}
use Rattle.fx_typing.specs.TypedView.{typed}
use Rattle.fx_core.specs.Rules.{rule_number}
use Rattle.fx_resolve.specs.MeaningView.{place_view}
use Rattle.fx_resolve.specs.PartView.{judged_part}
use Rattle.fx_resolve.specs.SettingView.{setting}
use Rattle.fx_infer.proofs.details.own_limit.Goals as goal

pub returns-in-Err-Refused : goal.returns-in-Err-Refused
returns-in-Err-Refused c =
    let p = place_view c.args.at.now in
    let s = setting c.args.scopes.now c.args.stand in
    let qs = map judged_part c.args.all.items in
    let broken : called_by p s c.args.shape qs ≡ Err (rule_number c.in-Err-Refused.field-0-0) =
    subst (λ w. IsAnswerOf typed (called_by p s c.args.shape qs) (Err w)) c.in-Err-Refused.field-0-is (c.in-Err-Refused.ensures c.args.scopes.now) in
    IfOk-weaker c.nothing.result _ _ (λ w e. e ∙ sym (ap limit_of broken)) c.nothing.ensures
