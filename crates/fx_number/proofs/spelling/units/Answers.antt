use Rattle.std.proofs.Common.{arith, ◌≡◌, ◌*◌, ◌∙◌, take, get_or, refl, sym}
use Rattle.std.specs.Str.Parse.{digits_value}
use Rattle.fx_number.proofs.Digits.{kept_units, units-shorter, units-longer, units-least, kept_units-least, le-digits_value_after, rounds_up, rounds_down, digit_value-at, one_more}
use Rattle.fx_number.proofs.spelling.units.Goals as goal
use Rattle.fx_number.proofs.spelling.units.Goals.{else-fraction-gt4-via-then-fraction-gt4+else-fraction-ge53, else-fraction-gt4-via-else-fraction-gt4}

pub returns-in_err-digits_after : goal.returns-in_err-digits_after
returns-in_err-digits_after c =
    let kept = take c.min.result c.args.fraction.now in
    let least = units-least c.args.whole.now c.args.fraction.now kept c.min.result refl c.min.ensures c.requires.fraction in
    rw c.from_residual.ensures (omega (arith, c.in_err-digits_after.ensures, le-digits_value_after (digits_value 10 c.args.whole.now) kept, kept_units-least c.args.whole.now kept, least))

pub returns-in_err-units : goal.returns-in_err-units
returns-in_err-units c =
    let kept = take c.min.result c.args.fraction.now in
    let far = rw c.in_ok-digits_after.ensures at c.in_err-units.ensures in
    let least = units-least c.args.whole.now c.args.fraction.now kept c.min.result refl c.min.ensures c.requires.fraction in
    rw c.from_residual-in_err-units.ensures (omega (arith, far, kept_units-least c.args.whole.now kept, least))

pub returns-in_err-units-2 : goal.returns-in_err-units-2
returns-in_err-units-2 c =
    let kept = take c.min.result c.args.fraction.now in
    let product : c.in_ok-units.units * c.pow.result ≡ kept_units c.args.whole.now kept = rw (c.in_ok-units.ensures, c.in_ok-digits_after.ensures, c.pow.ensures) refl in
    let least = units-least c.args.whole.now c.args.fraction.now kept c.min.result refl c.min.ensures c.requires.fraction in
    rw c.from_residual-in_err-units-2.ensures (omega (arith, c.in_err-units-2.ensures, product, least))

pub returns-then-fraction-ge53 : goal.returns-then-fraction-ge53
returns-then-fraction-ge53 c =
    let kept = take c.min.result c.args.fraction.now in
    let product : c.in_ok-units-2.units ≡ kept_units c.args.whole.now kept = c.in_ok-units-2.ensures.1 ∙ rw (c.in_ok-units.ensures, c.in_ok-digits_after.ensures, c.pow.ensures) refl in
    let up = rounds_up (get_or c.args.fraction.now 4 0) c.if-fraction-ge53.true (digit_value-at 4 c.args.fraction.now c.requires.fraction c.if-fraction-gt4.true) in
    let longer = rw (up, ← product) at (units-longer c.args.whole.now c.args.fraction.now kept c.min.result refl c.min.ensures c.if-fraction-gt4.true c.requires.fraction) in
    one_more _ _ _ c.checked_add.ensures longer

pub returns-else-fraction-gt4 : goal.returns-else-fraction-gt4
returns-else-fraction-gt4 c =
    let kept = take c.min.result c.args.fraction.now in
    let product : c.in_ok-units-2.units ≡ kept_units c.args.whole.now kept = c.in_ok-units-2.ensures.1 ∙ rw (c.in_ok-units.ensures, c.in_ok-digits_after.ensures, c.pow.ensures) refl in
    elim c.else-fraction-gt4.branch [
      | else-fraction-gt4-via-then-fraction-gt4+else-fraction-ge53 w ↦
          let down = rounds_down (get_or c.args.fraction.now 4 0) w.if-fraction-ge53.false (digit_value-at 4 c.args.fraction.now c.requires.fraction w.if-fraction-gt4.true) in
          let longer = rw down at (units-longer c.args.whole.now c.args.fraction.now kept c.min.result refl c.min.ensures w.if-fraction-gt4.true c.requires.fraction) in
          omega (arith, product, longer)
      | else-fraction-gt4-via-else-fraction-gt4 w ↦
          product ∙ sym (units-shorter c.args.whole.now c.args.fraction.now kept c.min.result refl c.min.ensures w.if-fraction-gt4.false)
    ]
