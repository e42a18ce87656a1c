use Rattle.std.proofs.Common.{◌≡◌, ◌+◌, ◌/◌, ◌%◌, ◌∙◌, refl, arith, pos, FitsSigned, w32}
use Rattle.std.proofs.lemmas.Int.{to_z-of_z}
use Rattle.jiff_core.specs.Calendar.{days_from_civil}
use Rattle.jiff_core.proofs.SignedLemmas.{signed_arith, signed_casts}
use Rattle.jiff_core.proofs.CalendarLemmas.{days_in_month_bounds}
use Rattle.fx_primitives.proofs.months.early_first_day.Goals as goal

pub returns-clause-value : goal.returns-clause-value
returns-clause-value c =
    let year : c.constrain.result.year ≡ pos (c.args.month / 12) = omega (arith, signed_casts, c.constrain.ensures.year) in
    let month : c.constrain.result.month ≡ c.args.month % 12 + 1 = c.constrain.ensures.month in
    let day : c.constrain.result.day ≡ 1 = omega (arith, c.constrain.ensures.day, days_in_month_bounds) in
    let parts : days_from_civil c.constrain.result.year c.constrain.result.month c.constrain.result.day ≡ days_from_civil (pos (c.args.month / 12)) (c.args.month % 12 + 1) 1 = rw (year, month, day) refl in
    let fits : FitsSigned w32 c.to_unix_epoch_day.result = omega (arith, signed_arith, c.to_unix_epoch_day.ensures.bound) in
    let e : c.to_unix_epoch_day.result ≡ days_from_civil (pos (c.args.month / 12)) (c.args.month % 12 + 1) 1 = c.to_unix_epoch_day.ensures.value ∙ parts in
    simp to_z-of_z e
