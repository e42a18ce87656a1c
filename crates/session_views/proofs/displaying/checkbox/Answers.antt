use Rattle.std.proofs.Common.{refl}
use Rattle.session_views.proofs.displaying.checkbox.Goals as goal

pub push-requires : goal.push-requires
push-requires c = rw (c.in_ok-fields.ensures, c.in_ok-name.ensures) ((refl, tt), (tt, tt))
