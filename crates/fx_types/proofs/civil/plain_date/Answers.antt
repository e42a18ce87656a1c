use Rattle.std.proofs.Common.{◌≡◌, subst, arith, rules}
use Rattle.std.proofs.lemmas.Grind.{common_steps}
use Rattle.jiff_core.specs.Date.{epoch_day}
use Rattle.fx_types.specs.Days.{IsDay}
use Rattle.fx_types.proofs.CivilDays.{civil_is_date, parts_are}
use Rattle.fx_types.proofs.civil.plain_date.Goals as goal

pub returns-clause-year : goal.returns-clause-year
returns-clause-year c =
    let number : epoch_day c.in-Ok.date ≡ c.args.day = first_of (search rules, grind (arith, common_steps)) in
    (parts_are c.in-Ok.date c.args.day number (subst IsDay c.days.ensures.value c.days.ensures.in_range)).0

pub returns-clause-month : goal.returns-clause-month
returns-clause-month c =
    let number : epoch_day c.in-Ok.date ≡ c.args.day = first_of (search rules, grind (arith, common_steps)) in
    (parts_are c.in-Ok.date c.args.day number (subst IsDay c.days.ensures.value c.days.ensures.in_range)).1

pub returns-clause-day : goal.returns-clause-day
returns-clause-day c =
    let number : epoch_day c.in-Ok.date ≡ c.args.day = first_of (search rules, grind (arith, common_steps)) in
    (parts_are c.in-Ok.date c.args.day number (subst IsDay c.days.ensures.value c.days.ensures.in_range)).2

pub returns-clause-in_calendar : goal.returns-clause-in_calendar
returns-clause-in_calendar c = (civil_is_date c.args.day (subst IsDay c.days.ensures.value c.days.ensures.in_range)).0
