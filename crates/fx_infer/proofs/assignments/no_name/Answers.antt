use Rattle.std.specs.Str.{chars}
use Rattle.fx_infer.proofs.assignments.no_name.Goals as goal

pub returns : goal.returns
unfolding chars
returns c = c.of.ensures
