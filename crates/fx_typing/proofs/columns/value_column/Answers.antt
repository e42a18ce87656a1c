use Rattle.std.proofs.Common.{refl}
use Rattle.std.specs.Str.{chars}
use Rattle.fx_typing.proofs.columns.value_column.Goals as goal

pub returns : goal.returns
unfolding chars
returns c = rw (c.in_ok-push.ensures.ok, c.new-columns.ensures, c.in_ok-of.ensures) refl
