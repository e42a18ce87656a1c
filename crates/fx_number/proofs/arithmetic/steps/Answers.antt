use Rattle.std.proofs.Common.{sym}
use Rattle.fx_number.proofs.Decimals.{steps_of-signed}
use Rattle.fx_number.specs.declared.Way.TheVariants.{Near}
use Rattle.fx_number.proofs.arithmetic.steps.Goals as goal

pub returns-in-Near-clause-value : goal.returns-in-Near-clause-value
returns-in-Near-clause-value c = rw (c.in-Near.is, c.nearest_whole.ensures) (sym (steps_of-signed Near c.args.negative c.args.magnitude c.args.step c.requires.step))
