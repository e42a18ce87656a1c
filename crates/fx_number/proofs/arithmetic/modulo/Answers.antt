use Rattle.std.proofs.Common.{arith, ◌<◌, ◌≤◌, ◌-◌, ◌%◌, sym, ap, ◌∙◌, eqb}
use Rattle.std.proofs.lemmas.Bool.{false≢true}
use Rattle.std.proofs.Math.Nat.{mod-le}
use Rattle.fx_number.specs.Decimal.{greatest}
use Rattle.fx_number.proofs.Decimals.{signed-zero, remainder_of-same, remainder_of-even, remainder_of-rest, signed-in_range, Checked-ok}
use Rattle.fx_number.proofs.arithmetic.modulo.Goals as goal
use Rattle.fx_number.proofs.arithmetic.modulo.Goals.{then-rest-eq0, else-rest-eq0}

pub returns-then-a_negative-b_negative : goal.returns-then-a_negative-b_negative
returns-then-a_negative-b_negative c =
    let a = c.sign_and_magnitude-a_negative.ensures.value in
    let b = c.sign_and_magnitude-b_negative.ensures.value in
    let positive : 0 < c.sign_and_magnitude-b_negative.result.1 = omega arith in
    let small : c.sign_and_magnitude-a_negative.result.1 % c.sign_and_magnitude-b_negative.result.1 ≤ greatest =
    omega (arith, mod-le c.sign_and_magnitude-a_negative.result.1 c.sign_and_magnitude-b_negative.result.1, c.sign_and_magnitude-a_negative.ensures.bound) in
    let inside = signed-in_range c.sign_and_magnitude-b_negative.result.0 _ small in (
      λ zero. absurd (c.if-b-eq0.false (signed-zero _ _ _ b zero)),
      λ nonzero. elim c.if-rest-eq0.branch [
        | then-rest-eq0 w ↦ Checked-ok _ _ _ c.with_sign.ensures (rw (← a, ← b) (remainder_of-even _ _ _ _ positive w.if-rest-eq0.true)) inside
        | else-rest-eq0 w ↦ Checked-ok _ _ _ c.with_sign.ensures (rw (← a, ← b) (remainder_of-same _ _ _ _ positive (sym w.value-is ∙ c.if-a_negative-b_negative.true))) inside
      ],
    )

pub returns-else-a_negative-b_negative : goal.returns-else-a_negative-b_negative
returns-else-a_negative-b_negative c =
    let a = c.sign_and_magnitude-a_negative.ensures.value in
    let b = c.sign_and_magnitude-b_negative.ensures.value in
    let positive : 0 < c.sign_and_magnitude-b_negative.result.1 = omega arith in
    let small : c.sign_and_magnitude-b_negative.result.1 - c.sign_and_magnitude-a_negative.result.1 % c.sign_and_magnitude-b_negative.result.1 ≤ greatest =
    omega (arith, c.sign_and_magnitude-b_negative.ensures.bound) in
    let inside = signed-in_range c.sign_and_magnitude-b_negative.result.0 _ small in (
      λ zero. absurd (c.if-b-eq0.false (signed-zero _ _ _ b zero)),
      λ nonzero. elim c.if-rest-eq0.branch [
        | then-rest-eq0 w ↦ absurd (false≢true (sym c.if-a_negative-b_negative.false ∙ w.value-is ∙ ap (λ k. eqb k 0) w.if-rest-eq0.true))
        | else-rest-eq0 w ↦ Checked-ok _ _ _ c.with_sign-else-a_negative-b_negative.ensures (rw (← a, ← b) (remainder_of-rest _ _ _ _ positive w.if-rest-eq0.false (sym w.value-is ∙ c.if-a_negative-b_negative.false))) inside
      ],
    )
