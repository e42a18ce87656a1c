use Rattle.std.proofs.Common.{refl}
use Rattle.std.specs.Str.{chars}
use Rattle.fx_typing.proofs.columns.fault_type.Goals as goal

pub push-requires-2 : goal.push-requires-2
unfolding chars
push-requires-2 c = rw (c.in_ok-push.ensures.ok, c.new-columns.ensures, c.in_ok-of.ensures, c.in_ok-of-2.ensures) ((refl, tt), (tt, tt))

pub returns : goal.returns
unfolding chars
returns c = rw (c.in_ok-push-2.ensures.ok, c.in_ok-push.ensures.ok, c.new-columns.ensures, c.in_ok-of.ensures, c.in_ok-of-2.ensures) refl
