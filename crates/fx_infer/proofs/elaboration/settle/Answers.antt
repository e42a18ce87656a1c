use Rattle.std.proofs.Common.{Err, inr, option_map, subst}
use Rattle.fx_types.specs.TypeView.{shape}
use Rattle.fx_typing.specs.Typing.{whole_argument}
use Rattle.fx_typing.specs.Answers.{IsAnswerOf, Wrong}
use Rattle.fx_typing.specs.TypedView.{typed}
use Rattle.fx_resolve.specs.PartView.{judged_part}
use Rattle.fx_infer.specs.Written.{formula_place}
use Rattle.fx_infer.proofs.elaboration.settle.Goals as goal

pub returns-in-Err-Refused : goal.returns-in-Err-Refused
returns-in-Err-Refused c =
    let w = c.args.cell.now in
    let q = judged_part c.args.whole in
    let wrong = subst (λ (e : Wrong). IsAnswerOf typed (whole_argument (option_map shape c.args.wanted.now) q) (Err e)) c.in-Err-Refused.field-0-is c.in-Err-Refused.ensures in
    λ b j. c.refuse.ensures (formula_place c.args.names.now w) b (option_map shape c.args.wanted.now) w.expr
    (inr (c.begins-at.ensures, q, j, wrong, c.in_ok-detail.ensures))
