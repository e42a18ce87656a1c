use Rattle.std.proofs.Common.{arith, ◌≡◌, unsigned_abs, rules}
use Rattle.std.proofs.lemmas.Int.{ints}
use Rattle.fx_number.proofs.Powers.{IsPower-to, IsPowerTo-reciprocal, IsPowerTo-stopped}
use Rattle.fx_number.proofs.arithmetic.power.Goals as goal

pub returns-in_err-power-in-Some : goal.returns-in_err-power-in-Some
returns-in_err-power-in-Some c =
    let count : c.unsigned_abs.result ≡ unsigned_abs c.in-Some.exponent = search rules in
    IsPower-to _ _ _ _ c.in-Some.ensures
    (IsPowerTo-stopped c.args.a c.in-Some.exponent c.unsigned_abs.result _ _ (grind (arith, ints)) count c.in_err-power-in-Some.ensures.0 c.in_err-power-in-Some.ensures.1 c.from_residual.ensures.1)

pub returns-in_ok-power-in-Some : goal.returns-in_ok-power-in-Some
returns-in_ok-power-in-Some c =
    let count : c.unsigned_abs.result ≡ unsigned_abs c.in-Some.exponent = search rules in
    IsPower-to _ _ _ _ c.in-Some.ensures
    (IsPowerTo-reciprocal c.args.a c.in-Some.exponent c.in_ok-power-in-Some.field-0 c.unsigned_abs.result _ (grind (arith, ints)) count c.in_ok-power-in-Some.ensures.0 c.in_ok-power-in-Some.ensures.2 c.div.ensures)
