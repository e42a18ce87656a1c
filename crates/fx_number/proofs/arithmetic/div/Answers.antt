use Rattle.std.proofs.Common.{arith, ◌<◌}
use Rattle.fx_number.proofs.Decimals.{quotient_of-signed, signed-zero}
use Rattle.fx_number.proofs.arithmetic.div.Goals as goal

pub returns : goal.returns
returns c =
    let a = c.sign_and_magnitude-a_negative.ensures.value in
    let b = c.sign_and_magnitude-b_negative.ensures.value in
    let positive : 0 < c.sign_and_magnitude-b_negative.result.1 = omega arith in (
      λ zero. absurd (c.if-divisor-eq0.false (signed-zero _ _ _ b zero)),
      λ nonzero. rw (← a, ← b, quotient_of-signed _ _ _ _ positive, ← c.nearest_whole.ensures) c.with_sign.ensures,
    )
