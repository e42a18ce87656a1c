use Rattle.std.proofs.Common.{◌≡◌, ◌∷◌, [], map, rules, subst, sym}
use Rattle.fx_types.specs.TypeView.{shape}
use Rattle.fx_typing.specs.Parts as parts
use Rattle.fx_typing.specs.Typing.{alias_by}
use Rattle.fx_typing.specs.Answers.{IsAnswerOf}
use Rattle.fx_resolve.specs.PartView.{judged_part}
use Rattle.fx_resolve.specs.PlanView.{grant}
use Rattle.fx_typing.specs.Local as local
use Rattle.fx_infer.proofs.admitting.alias_by.Goals as goal

pub returns-in-Some-Piece-Value : goal.returns-in-Some-Piece-Value
returns-in-Some-Piece-Value c =
    let v = c.in-Some-Piece-Value.value in
    let a = c.in-Some-Piece-Value.field-0-0-0 in
    let e : map judged_part c.args.all.items ≡ parts.piece (local.value a v.core (shape v.ty)) ∷ [] = search rules in
    subst (λ qs. IsAnswerOf judged_part (alias_by (grant c.args.allowed) c.args.name.now qs) c.alias_value.result) (sym e) (c.alias_value.ensures a)
