use Rattle.std.proofs.Common.{◌++◌, ◌∙◌, ap, sym, subst}
use Rattle.fx_parser.specs.Printing.{shown}
use Rattle.fx_parser.specs.SameTree.{HasTreeLike}
use Rattle.fx_parser.specs.Fewest.{HasFewest}
use Rattle.fx_parser.proofs.Says.{round_trip}
use Rattle.fx_parser.proofs.FewestIs.{fewest}
use Rattle.fx_parser.proofs.write.print.Goals as goal

pub returns-clause-same_tree : goal.returns-clause-same_tree
returns-clause-same_tree c =
    let e = c.into_text.ensures.characters ∙ c.in_ok-write.ensures ∙ ap (λ x. x ++ shown c.args.expr.now) c.new-out.ensures in
    λ n cs h. subst (λ x. HasTreeLike x c.args.expr.now) (sym e) (round_trip n cs c.args.expr.now h)

pub returns-clause-fewest : goal.returns-clause-fewest
returns-clause-fewest c =
    let e = c.into_text.ensures.characters ∙ c.in_ok-write.ensures ∙ ap (λ x. x ++ shown c.args.expr.now) c.new-out.ensures in
    λ n cs h. subst (λ x. HasFewest x c.args.expr.now) (sym e) (fewest n cs c.args.expr.now h)
