use Rattle.fx_parser.specs.Trees.{HasFormula}
use Rattle.fx_parser.proofs.Ends.{has_tree, formula_long}
use Rattle.fx_parser.proofs.refusal.formula_end.Goals as goal

pub deepest-requires : goal.deepest-requires
deepest-requires c =
    let t = has_tree HasFormula c.args.items.now c.in-Ok-HasTree.field-0 c.in-Ok-HasTree.field-0-is c.in-Ok-HasTree.ensures in
    formula_long t.2
