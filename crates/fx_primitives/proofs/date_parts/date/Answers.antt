use Rattle.std.proofs.Common.{◌∙◌, ℤ, pos, ◌+ℤ◌, ◌-ℤ◌, ap, subst, arith, FitsSigned, w64}
use Rattle.std.specs.Int.{w128}
use Rattle.std.proofs.lemmas.Int.{to_z-of_z}
use Rattle.jiff_core.proofs.SignedLemmas.{signed_arith}
use Rattle.fx_primitives.specs.Dates.{IsDayOrInvalid}
use Rattle.fx_primitives.specs.Months.{first_day_of_month}
use Rattle.fx_primitives.proofs.date_parts.date.Goals as goal

pub returns : goal.returns
returns c =
    let year : FitsSigned w64 c.args.year = c.ranges.year in
    let month : FitsSigned w64 c.args.month = c.ranges.month in
    let day : FitsSigned w64 c.args.day = c.ranges.day in
    let months : FitsSigned w128 c.month_of_parts.result = omega (arith, signed_arith, c.month_of_parts.ensures.bound) in
    let start : FitsSigned w128 c.first_day-first.result = omega (arith, signed_arith, c.first_day-first.ensures.bound) in
    let end : FitsSigned w128 c.day_after.result = omega (arith, signed_arith, c.day_after.ensures.bound) in
    let first = (simp to_z-of_z at c.first_day-first.ensures.value) ∙ ap first_day_of_month (simp to_z-of_z at c.month_of_parts.ensures.value) in
    let number = (simp to_z-of_z at c.day_after.ensures.value) ∙ ap (λ (f : ℤ). f +ℤ (c.args.day -ℤ pos 1)) first in
    subst (λ (z : ℤ). IsDayOrInvalid z c.day_of_number.result) number (simp to_z-of_z at c.day_of_number.ensures)
