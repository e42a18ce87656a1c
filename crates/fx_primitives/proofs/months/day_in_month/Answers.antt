use Rattle.std.proofs.Common.{◌≡◌, ◌∙◌, sym, refl, min, arith, FitsSigned, w16}
use Rattle.std.specs.Int.{w128}
use Rattle.std.proofs.lemmas.Int.{to_z-of_z}
use Rattle.jiff_core.specs.Calendar.{days_in_month}
use Rattle.jiff_core.proofs.SignedLemmas.{signed_arith}
use Rattle.fx_primitives.specs.Months.{year_of, month_of}
use Rattle.fx_primitives.proofs.months.day_in_month.Goals as goal

pub returns-in-Some : goal.returns-in-Some
returns-in-Some c =
    let month : FitsSigned w128 c.args.month = c.ranges.month in
    let found = simp to_z-of_z at c.in-Some.ensures in
    let fits : FitsSigned w16 c.in-Some.year = omega (arith, signed_arith, found.1) in
    let year : c.constrain.result.year ≡ year_of c.args.month = (simp to_z-of_z at c.constrain.ensures.year) ∙ found.0 in
    let place : c.constrain.result.month ≡ month_of c.args.month = c.constrain.ensures.month ∙ (simp to_z-of_z at c.place_in_year.ensures.value) in
    let day : c.constrain.result.day ≡ min c.args.place (days_in_month c.constrain.result.year c.constrain.result.month) = rw (c.constrain.ensures.year, c.constrain.ensures.month) c.constrain.ensures.day in
    let parts = c.day_of_plain.ensures in
    (parts.in_range, (sym parts.year ∙ year, sym parts.month ∙ place, sym parts.day ∙ day ∙ rw (year, place) refl))
