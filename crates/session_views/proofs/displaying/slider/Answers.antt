use Rattle.std.proofs.Common.{refl}
use Rattle.session_views.proofs.displaying.slider.Goals as goal

pub push-requires : goal.push-requires
push-requires c = rw (c.in_ok-fields.ensures, c.in_ok-max.ensures, c.in_ok-min.ensures) ((refl, tt), (tt, tt))

pub push-requires-2 : goal.push-requires-2
push-requires-2 c = rw (c.in_ok-push.ensures.ok, c.in_ok-fields.ensures, c.in_ok-max.ensures, c.in_ok-min.ensures, c.in_ok-name.ensures) ((refl, (refl, tt)), ((refl, tt), (tt, tt)))
