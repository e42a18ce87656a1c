use Rattle.fx_eval.proofs.Demanding.{found_so, unsearched}
use Rattle.fx_eval.proofs.demands.look_up.Goals as goal

pub returns-in_ok-sketch-in-len2 : goal.returns-in_ok-sketch-in-len2
returns-in_ok-sketch-in-len2 c =
    found_so c.args.schema.now.tables c.args.depth c.args.rows.now _ c.args.parts.now _ _ c.in-len2.len_at_least c.in-len2.len_below c.condition-item-then-parts-lt3.is c.in_ok-sketch-in-len2.ensures c.of_sketch-in-len2.ensures

pub returns-in-len3-up : goal.returns-in-len3-up
returns-in-len3-up c = unsearched c.args.schema.now.tables c.args.depth c.args.rows.now c.args.parts.now c.in-len3-up.len_at_least
