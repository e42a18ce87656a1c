use Rattle.std.proofs.Common.{◌≡◌, arith, rules}
use Rattle.std.proofs.lemmas.Grind.{common_steps}
use Rattle.fx_types.specs.Civil.{civil_of}
use Rattle.fx_types.proofs.civil.civil_date.Goals as goal

pub returns-clause-in_calendar : goal.returns-clause-in_calendar
returns-clause-in_calendar c =
    let year : c.unsigned_abs.result ≡ (civil_of c.args.day).year = first_of (search rules, grind (arith, common_steps)) in
    let month = c.plain_date-date.ensures.month in
    let day = c.plain_date-date.ensures.day in
    rw (year, month, day) c.plain_date-date.ensures.in_calendar
