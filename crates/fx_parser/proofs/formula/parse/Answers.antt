use Rattle.std.proofs.Common.{◌≡◌, ℕ, length, arith, ap, sym, ◌∙◌, Some}
use Rattle.std.proofs.lemmas.Result.{err_from_is_err_and}
use Rattle.fx_parser.specs.Answer.{ParserAnswers, parsed_view, body}
use Rattle.fx_parser.proofs.Whole.{refused_by, tree_by, refused_rest, zero_of, not_zero_of}
use Rattle.fx_parser.proofs.formula.parse.Goals as goal

pub returns-in_err-tree-clause-refused : goal.returns-in_err-tree-clause-refused
returns-in_err-tree-clause-refused c =
    let p = err_from_is_err_and c.from_residual.result c.from_residual.ensures.1 in
    rw (p.1, p.2) (refused_by c.args.tokens.now _ _ c.body.ensures c.in_err-tree.ensures.gives)

pub returns-then-is_empty-clause-tree : goal.returns-then-is_empty-clause-tree
returns-then-is_empty-clause-tree c = tree_by _ _ _ c.body.ensures c.in_ok-tree.ensures.gives (zero_of _ c.if-is_empty.ensures)

pub returns-else-is_empty-clause-refused : goal.returns-else-is_empty-clause-refused
returns-else-is_empty-clause-refused c = refused_rest _ _ _ c.body.ensures c.in_ok-tree.ensures.gives (not_zero_of _ c.if-is_empty.ensures)
