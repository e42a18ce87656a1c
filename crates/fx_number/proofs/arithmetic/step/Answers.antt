use Rattle.std.proofs.Common.{arith}
use Rattle.std.proofs.lemmas.Int.{ints}
use Rattle.fx_number.proofs.Decimals.{step_of-wide}
use Rattle.fx_number.proofs.arithmetic.step.Goals as goal

pub returns-then-digits-ltminus16 : goal.returns-then-digits-ltminus16
returns-then-digits-ltminus16 c = step_of-wide c.args.digits (grind (arith, ints))
