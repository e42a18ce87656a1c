use Rattle.std.proofs.Common.{arith, ◌<◌, ◌≡◌, ◌^◌, min, w64}
use Rattle.std.proofs.lemmas.Int.{to_z-of_z}
use Rattle.fx_number.specs.Decimal.{step_of}
use Rattle.fx_number.proofs.Decimals.{Checked-steps, step_of-positive}
use Rattle.fx_number.proofs.arithmetic.round.Goals as goal

pub steps-steps-requires-clause-step : goal.steps-steps-requires-clause-step
steps-steps-requires-clause-step c =
    let step = rw (to_z-of_z w64 c.args.digits c.ranges.digits) at c.step-step.ensures in
    omega (arith, step, step_of-positive c.args.digits)

pub returns : goal.returns
returns c =
    let a = c.sign_and_magnitude-negative.ensures.value in
    let step : c.step-step.result ≡ min (step_of c.args.digits) (10 ^ 20) = rw (to_z-of_z w64 c.args.digits c.ranges.digits) at c.step-step.ensures in
    let positive : 0 < c.step-step.result = omega (arith, step, step_of-positive c.args.digits) in
    rw (← a) (Checked-steps _ _ _ c.steps-steps.result (step_of c.args.digits) c.step-step.result c.with_sign.result c.sign_and_magnitude-negative.ensures.bound positive step c.steps-steps.ensures.value c.with_sign.ensures)
