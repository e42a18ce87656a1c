use Rattle.std.proofs.Common.{map, subst, sym, inl, inr}
use Rattle.fx_typing.specs.Builds.{typed_record}
use Rattle.fx_typing.specs.Typing.{record_as}
use Rattle.fx_typing.specs.Answers.{IsAnswerOf}
use Rattle.fx_typing.specs.TypedView.{typed}
use Rattle.fx_resolve.specs.PartView.{judged_part}
use Rattle.fx_resolve.specs.PlanView.{grant}
use Rattle.fx_resolve.specs.declared.plans.Grant.{Grant}
use Rattle.fx_infer.proofs.admitting.record_as.Goals as goal

pub returns-in-Nothing : goal.returns-in-Nothing
returns-in-Nothing c =
    let P : Grant → Type 0 = λ a. IsAnswerOf judged_part (record_as (grant a) c.args.names.items (map typed c.args.values.items)) c.as_part.result in
    let w = c.as_part.ensures (typed_record c.args.names.items (map typed c.args.values.items)) c.record_of.ensures in
    elim c.in-Nothing.is [ inl e ↦ subst P (sym e) w | inr or2 ↦ (elim or2 [ inl e ↦ subst P (sym e) w | inr or3 ↦ (elim or3 [ inl e ↦ subst P (sym e) w | inr or4 ↦ (elim or4 [ inl e ↦ subst P (sym e) w | inr or5 ↦ (elim or5 [ inl e ↦ subst P (sym e) w | inr or6 ↦ (elim or6 [ inl e ↦ subst P (sym e) w | inr d ↦ subst P (sym d.1) w ]) ]) ]) ]) ]) ]
