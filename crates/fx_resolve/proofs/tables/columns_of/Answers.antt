use Rattle.std.proofs.Common.{refl}
use Rattle.std.specs.Str.{chars}
use Rattle.fx_resolve.proofs.tables.columns_of.Goals as goal

pub loop-column-init : goal.loop-column-init
unfolding chars
loop-column-init c = rw (c.in_ok-push.ensures.ok, c.new-columns.ensures, c.in_ok-of.ensures, c.as_slice-column-items.ensures) refl
