use Rattle.std.proofs.Common.{refl}
use Rattle.std.specs.Str.{chars}
use Rattle.test_functions.proofs.parts.pair.Goals as goal

pub push-requires-2 : goal.push-requires-2
unfolding chars
push-requires-2 c =
    let e = c.in_ok-push.ensures.ok in
    let n = c.in_ok-of.ensures in
    let m = c.in_ok-of-2.ensures in
    rw (e, c.new-fields.ensures, n, m) ((refl, tt), (tt, tt))
