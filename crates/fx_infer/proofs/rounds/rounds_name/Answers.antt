use Rattle.std.specs.Str.{chars}
use Rattle.fx_infer.proofs.rounds.rounds_name.Goals as goal

pub returns : goal.returns
unfolding chars
returns c = c.of.ensures
