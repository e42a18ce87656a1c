use Rattle.std.proofs.Common.{◌∙◌, Err, ap, inl, option_map, subst}
use Rattle.fx_types.specs.TypeView.{shape}
use Rattle.fx_typing.specs.Details.{IsToldBroken}
use Rattle.fx_typing.specs.Typing.{judge}
use Rattle.fx_core.specs.Rules.{rule_number}
use Rattle.fx_resolve.specs.PartView.{judged_part}
use Rattle.fx_resolve.specs.SettingView.{setting}
use Rattle.fx_infer.specs.Judged.{IsJudgedBy, Halt}
use Rattle.fx_infer.specs.Written.{formula_may_act, formula_place}
use Rattle.fx_infer.proofs.elaboration.judge_cell.Goals as goal

pub returns-in-Err-Refused : goal.returns-in-Err-Refused
returns-in-Err-Refused c =
    let w = c.args.cell.now in
    let p = formula_place c.args.names.now w in
    let f = c.in-Err-Refused.flaw in
    let t = setting c.new-scopes.result c.outermost.result in
    let told : IsToldBroken p t w.expr f.at (rule_number f.rule) f.detail =
    subst (λ (e : Halt). IsJudgedBy judged_part (judge p t w.expr) (IsToldBroken p t w.expr) (Err e)) c.in-Err-Refused.field-0-is c.in-Err-Refused.ensures.judged in
    let s = ap (λ ss. setting ss c.outermost.result) c.new-scopes.ensures ∙ c.outermost.ensures in
    c.refuse.ensures p (formula_may_act w.place) (option_map shape c.args.wanted.now) w.expr
    (inl (subst (λ u. IsToldBroken p u w.expr f.at (rule_number f.rule) f.detail) s told))
