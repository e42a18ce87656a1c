use Rattle.std.specs.Str.{chars}
use Rattle.fx_scalar.proofs.arguments.no_text.Goals as goal

pub returns : goal.returns
unfolding chars
returns c = c.of.ensures
