use Rattle.std.proofs.Common.{arith}
use Rattle.fx_plan.proofs.Delegable.{called_none}
use Rattle.fx_plan.proofs.conditions.call_pattern.Goals as goal

pub returns-in-len3-up : goal.returns-in-len3-up
returns-in-len3-up c = called_none c.args.table.now c.args.scope c.args.fun c.args.parts.now c.args.constants.now (omega arith)
