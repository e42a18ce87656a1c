use Rattle.std.proofs.Common.{arith}
use Rattle.fx_parser.proofs.Writing.{several_long, several_short}
use Rattle.fx_parser.proofs.precedence.is_several.Goals as goal

pub returns-in_default : goal.returns-in_default
returns-in_default c = several_short c.args.parts.now (omega (arith, c.in_default.len_below))

pub returns-in-len2-up : goal.returns-in-len2-up
returns-in-len2-up c = several_long c.args.parts.now (omega (arith, c.in-len2-up.len_at_least))
