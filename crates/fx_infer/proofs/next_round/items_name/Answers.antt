use Rattle.std.specs.Str.{chars}
use Rattle.fx_infer.proofs.next_round.items_name.Goals as goal

pub returns : goal.returns
unfolding chars
returns c = c.of.ensures
