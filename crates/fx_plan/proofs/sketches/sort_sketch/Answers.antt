use Rattle.std.proofs.Common.{arith}
use Rattle.fx_plan.proofs.Delegable.{sorted_none}
use Rattle.fx_plan.proofs.sketches.sort_sketch.Goals as goal

pub returns-in-len2-up : goal.returns-in-len2-up
returns-in-len2-up c = sorted_none c.args.schema.now.tables c.args.depth c.args.order c.args.keys.now c.args.rows (omega arith)
