use Rattle.std.proofs.Common.{refl}
use Rattle.std.specs.Str.{chars}
use Rattle.session_views.proofs.displaying.date_name.Goals as goal

pub returns : goal.returns
unfolding chars
returns c = rw (c.in_ok-of.ensures) refl
