use Rattle.std.proofs.Common.{arith, suc, add-one}
use Rattle.fx_number.proofs.Decimals.{powers-more}
use Rattle.fx_number.proofs.Powers.{CheckedOnWay-stopped}
use Rattle.fx_number.proofs.arithmetic.whole_power.Goals as goal

pub returns-in_err-power : goal.returns-in_err-power
returns-in_err-power c =
    CheckedOnWay-stopped _ _ _ c.in_err-power.ensures.0
    (λ inside. c.in_err-power.ensures.1 (rw (c.loop.invariant.0) (inside (suc c.loop.counter) (omega arith))))
    c.from_residual.ensures.1

pub loop-preserved : goal.loop-preserved
loop-preserved c =
    let same = rw (c.loop.invariant.0) at c.in_ok-power.ensures.0 in
    let more = powers-more c.args.a c.in_ok-power.power c.loop.counter c.loop.invariant.1 same (rw c.in_ok-power.ensures.0 c.in_ok-power.ensures.1) in
    rw add-one (same, more)
