use Rattle.std.proofs.Common.{arith, ◌≤◌, ◌^◌, ◌+◌, ◌*◌, drop, refl}
use Rattle.std.specs.Str.Parse.{digits_value_after}
use Rattle.fx_number.proofs.Digits.{too_great}
use Rattle.fx_number.proofs.spelling.digits_after.Goals as goal

pub returns-in_err-checked_mul : goal.returns-in_err-checked_mul
returns-in_err-checked_mul c =
    let far : 2 ^ 64 ≤ digits_value_after 10 c.loop-digit.number (drop c.loop-digit.digit-index c.args.digits.now) =
    too_great _ _ _ _ c.loop-digit-test.true c.loop-digit.invariant.0 refl (omega (arith, c.in_err-checked_mul.ensures)) in
    rw c.from_residual.ensures (rw c.loop-digit.invariant.1 at far)

pub returns-in_err-number : goal.returns-in_err-number
returns-in_err-number c =
    let great : 2 ^ 64 ≤ c.loop-digit.number * 10 + c.from.result = omega (arith, c.in_err-number.ensures, c.in_ok-checked_mul.ensures) in
    let far : 2 ^ 64 ≤ digits_value_after 10 c.loop-digit.number (drop c.loop-digit.digit-index c.args.digits.now) =
    too_great _ _ _ _ c.loop-digit-test.true c.loop-digit.invariant.0 c.from.ensures great in
    rw c.from_residual-in_err-number.ensures (rw c.loop-digit.invariant.1 at far)
