use Rattle.std.proofs.lemmas.Result.{IfOk-weaker}
use Rattle.fx_scalar.proofs.numbers.raise.Goals as goal

pub returns : goal.returns
returns c =
    let a = c.number_at-a.ensures in
    let b = c.number_at-b.ensures in
    let p = rw (a, b) at c.power.ensures in
    IfOk-weaker c.number.result _ _ (λ v h. (c.power.result, p, h)) c.number.ensures
