use Rattle.std.proofs.Common.{refl, Ok}
use Rattle.std.proofs.lemmas.Result.{IfOk-weaker}
use Rattle.fx_scalar.proofs.numbers.min.Goals as goal

pub returns : goal.returns
returns c =
    let lent = c.deref.ensures.value in
    let read = c.in_ok-numbers.ensures in
    let p = rw (lent, read) at c.min.ensures in
    IfOk-weaker c.maybe.result _ _ (λ v h. (Ok c.min.result, (c.min.result, p, refl), h)) c.maybe.ensures
