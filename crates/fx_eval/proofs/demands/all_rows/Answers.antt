use Rattle.fx_eval.proofs.Demanding.{rows_so}
use Rattle.fx_eval.proofs.demands.all_rows.Goals as goal

pub returns : goal.returns
returns c = rows_so c.args.schema.now.tables c.args.depth c.of_sketch.result c.in_ok-sketch.sketch c.args.core.now c.in_ok-sketch.ensures c.of_sketch.ensures
