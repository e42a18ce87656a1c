use Rattle.std.proofs.Common.{refl}
use Rattle.std.specs.Str.{chars}
use Rattle.row_keeper.proofs.row_tables.id_column.Goals as goal

pub returns : goal.returns
unfolding chars
returns c = rw (c.in_ok-of.ensures) refl
