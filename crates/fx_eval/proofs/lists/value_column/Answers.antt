use Rattle.std.proofs.Common.{rules}
use Rattle.std.specs.Str.{chars}
use Rattle.fx_eval.proofs.lists.value_column.Goals as goal

pub returns : goal.returns
unfolding chars
returns c = search rules
