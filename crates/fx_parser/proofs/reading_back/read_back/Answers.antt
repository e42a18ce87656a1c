use Rattle.std.proofs.Common.{sym, ap, ◌∙◌, subst}
use Rattle.std.specs.Str.{chars}
use Rattle.fx_parser.specs.SameTree.{HasTreeLike}
use Rattle.fx_parser.proofs.Back.{same_tree, may_end}
use Rattle.fx_parser.proofs.reading_back.read_back.Goals as goal

pub returns-in-Ok-parse_formula-clause-same_tree : goal.returns-in-Ok-parse_formula-clause-same_tree
returns-in-Ok-parse_formula-clause-same_tree c =
    let s = c.as_str-source in
    λ n cs h. same_tree 64 (chars s.result.now) c.args.expr.now _
    (subst (λ x. HasTreeLike (chars x) c.args.expr.now) (sym s.ensures.value) (c.in-Ok.ensures.same_tree n cs h))
    c.in-Ok-parse_formula.ensures.tree

pub returns-clause-end : goal.returns-clause-end
returns-clause-end c =
    let s = c.as_str-source in
    λ n cs h. may_end s.result.now c.args.expr.now _
    (ap chars s.ensures.value ∙ c.in-Ok.ensures.characters)
    (subst (λ x. HasTreeLike (chars x) c.args.expr.now) (sym s.ensures.value) (c.in-Ok.ensures.same_tree n cs h))
    c.in-Err-parse_formula.ensures.end
