use Rattle.std.proofs.Common.{option_map, subst, sym, inl, inr}
use Rattle.fx_typing.specs.Typing.{name_by}
use Rattle.fx_typing.specs.Answers.{IsAnswerOf}
use Rattle.fx_resolve.specs.MeaningView.{meaning_view}
use Rattle.fx_typing.specs.Meaning.{named}
use Rattle.fx_resolve.specs.PartView.{judged_part}
use Rattle.fx_resolve.specs.PlanView.{grant}
use Rattle.fx_resolve.specs.declared.plans.Grant.{Grant}
use Rattle.fx_infer.proofs.admitting.name_by.Goals as goal

pub returns : goal.returns
returns c =
    let P : Grant → Type 0 = λ a. IsAnswerOf judged_part (name_by (grant a) c.args.name.now (option_map meaning_view c.args.meaning)) c.as_part.result in
    let w = c.as_part.ensures (named (option_map meaning_view c.args.meaning)) c.as_value.ensures in
    elim c.in-Nothing.is [ inl e ↦ subst P (sym e) w | inr or2 ↦ (elim or2 [ inl e ↦ subst P (sym e) w | inr or3 ↦ (elim or3 [ inl e ↦ subst P (sym e) w | inr d ↦ subst P (sym d.1) w ]) ]) ]
