use Rattle.std.proofs.Common.{◌≡◌, ℤ, pos, ◌+ℤ◌, subst, arith, FitsSigned}
use Rattle.std.specs.Int.{w128}
use Rattle.std.proofs.lemmas.Int.{to_z-of_z}
use Rattle.jiff_core.proofs.SignedLemmas.{signed_arith}
use Rattle.fx_types.specs.declared.civil.CivilDate.{CivilDate}
use Rattle.fx_primitives.specs.Dates.{IsInMonthOrInvalid}
use Rattle.fx_primitives.specs.Months.{month_number}
use Rattle.fx_primitives.proofs.months.months_later.Goals as goal

pub returns : goal.returns
returns c =
    let months : FitsSigned w128 c.args.months = c.ranges.months in
    let later : FitsSigned w128 c.month_after-month.result = omega (arith, signed_arith, c.month_after-month.ensures.bound) in
    let month : c.month_after-month.result ≡ pos (month_number c.civil_date-date.result) +ℤ c.args.months = simp to_z-of_z at c.month_after-month.ensures.value in
    let date = c.civil_date-date.ensures.value in
    let made : IsInMonthOrInvalid c.month_after-month.result c.civil_date-date.result.day c.day_in_month.result = simp to_z-of_z at c.day_in_month.ensures in
    let then = subst (λ (k : ℤ). IsInMonthOrInvalid k c.civil_date-date.result.day c.day_in_month.result) month made in
    subst (λ (d : CivilDate). IsInMonthOrInvalid (pos (month_number d) +ℤ c.args.months) d.day c.day_in_month.result) date then
