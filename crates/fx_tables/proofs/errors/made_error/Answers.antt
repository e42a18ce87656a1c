use Rattle.std.proofs.Common.{ap}
use Rattle.std.specs.Str.{chars}
use Rattle.fx_types.specs.Values.{fault}
use Rattle.fx_tables.proofs.errors.made_error.Goals as goal

pub returns : goal.returns
unfolding chars
returns c = ap (fault c.args.kind) c.in_ok-message.ensures
