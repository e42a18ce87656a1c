use Rattle.std.proofs.Common.{◌≡◌, ◌∙◌, sym, subst, arith, FitsSigned, w32}
use Rattle.std.proofs.lemmas.Int.{to_z-of_z}
use Rattle.jiff_core.specs.Date.{epoch_day}
use Rattle.jiff_core.proofs.SignedLemmas.{signed_arith}
use Rattle.fx_types.specs.Days.{IsDay}
use Rattle.fx_types.proofs.CivilDays.{is_day, parts_are}
use Rattle.fx_types.proofs.civil.day_of_plain.Goals as goal

pub unreachable-requires : goal.unreachable-requires
unreachable-requires c =
    let day : IsDay c.to_unix_epoch_day.result = subst IsDay (sym c.to_unix_epoch_day.ensures.value) (is_day c.args.date c.requires) in
    let fits : FitsSigned w32 c.to_unix_epoch_day.result = omega (arith, signed_arith) in
    c.in-None.ensures (simp to_z-of_z day)

pub returns-clause-year : goal.returns-clause-year
returns-clause-year c =
    let day : IsDay (epoch_day c.args.date) = is_day c.args.date c.requires in
    let number : c.to_unix_epoch_day.result ≡ epoch_day c.args.date = c.to_unix_epoch_day.ensures.value in
    let fits : FitsSigned w32 c.to_unix_epoch_day.result = rw number (omega (arith, signed_arith)) in
    let is : c.in-Some.day ≡ epoch_day c.args.date = (simp to_z-of_z at c.in-Some.ensures.0) ∙ number in
    (parts_are c.args.date c.in-Some.day (sym is) (subst IsDay (sym is) day)).0

pub returns-clause-month : goal.returns-clause-month
returns-clause-month c =
    let day : IsDay (epoch_day c.args.date) = is_day c.args.date c.requires in
    let number : c.to_unix_epoch_day.result ≡ epoch_day c.args.date = c.to_unix_epoch_day.ensures.value in
    let fits : FitsSigned w32 c.to_unix_epoch_day.result = rw number (omega (arith, signed_arith)) in
    let is : c.in-Some.day ≡ epoch_day c.args.date = (simp to_z-of_z at c.in-Some.ensures.0) ∙ number in
    (parts_are c.args.date c.in-Some.day (sym is) (subst IsDay (sym is) day)).1

pub returns-clause-day : goal.returns-clause-day
returns-clause-day c =
    let day : IsDay (epoch_day c.args.date) = is_day c.args.date c.requires in
    let number : c.to_unix_epoch_day.result ≡ epoch_day c.args.date = c.to_unix_epoch_day.ensures.value in
    let fits : FitsSigned w32 c.to_unix_epoch_day.result = rw number (omega (arith, signed_arith)) in
    let is : c.in-Some.day ≡ epoch_day c.args.date = (simp to_z-of_z at c.in-Some.ensures.0) ∙ number in
    (parts_are c.args.date c.in-Some.day (sym is) (subst IsDay (sym is) day)).2
