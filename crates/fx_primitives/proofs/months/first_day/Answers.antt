use Rattle.std.proofs.Common.{◌≡◌, ◌∙◌, sym, ap, ◌<◌, arith, FitsSigned, w32, ℤ, pos, ◌+ℤ◌, ◌*ℤ◌, unsigned_abs}
use Rattle.std.specs.Int.{w128}
use Rattle.std.specs.Int.{int_div_euclid, int_rem_euclid}
use Rattle.std.proofs.lemmas.Int.{to_z-of_z}
use Rattle.jiff_core.proofs.SignedLemmas.{signed_arith, int_div_euclid-parts, int_rem_euclid-parts}
use Rattle.fx_primitives.specs.Months.{first_day_of_month}
use Rattle.fx_primitives.proofs.MonthLemmas.{first_of-cycle}
use Rattle.fx_primitives.proofs.months.first_day.Goals as goal

pub returns-clause-value : goal.returns-clause-value
returns-clause-value c =
    let month : FitsSigned w128 c.args.month = c.ranges.month in
    let parts = int_div_euclid-parts c.args.month 4800 (omega arith) in
    let left = int_rem_euclid-parts c.args.month 4800 (omega arith) in
    let quotient : c.div_euclid-cycles.result ≡ int_div_euclid c.args.month (pos 4800) = simp to_z-of_z at c.div_euclid-cycles.ensures in
    let rest : c.rem_euclid.result ≡ int_rem_euclid c.args.month (pos 4800) = simp to_z-of_z at c.rem_euclid.ensures.value in
    let cycles : FitsSigned w128 c.div_euclid-cycles.result = rw quotient (omega (arith, signed_arith, parts)) in
    let place : FitsSigned w128 c.rem_euclid.result = rw rest (omega (arith, signed_arith, left)) in
    let number : FitsSigned w32 c.early_first_day-first.result = omega (arith, signed_arith) in
    let is : c.args.month ≡ (c.div_euclid-cycles.result *ℤ pos 4800) +ℤ pos (unsigned_abs c.rem_euclid.result) = rw (quotient, rest) (omega (arith, signed_arith, parts, left)) in
    let small : unsigned_abs c.rem_euclid.result < 4800 = rw rest (omega (arith, signed_arith, left)) in
    let main = first_of-cycle c.args.month c.div_euclid-cycles.result (unsigned_abs c.rem_euclid.result) is small in
    let first = simp to_z-of_z at c.early_first_day-first.ensures.value in
    let later = simp to_z-of_z at c.cycles_later.ensures.value in
    let whole : FitsSigned w128 c.cycles_later.result = omega (arith, signed_arith, c.cycles_later.ensures.bound) in
    let e : c.cycles_later.result ≡ first_day_of_month c.args.month = later ∙ ap (λ (f : ℤ). (c.div_euclid-cycles.result *ℤ pos 146097) +ℤ f) first ∙ sym main in
    simp to_z-of_z e
