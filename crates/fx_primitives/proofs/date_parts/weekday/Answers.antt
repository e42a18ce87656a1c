use Rattle.std.proofs.Common.{◌≡◌, ◌∙◌, ap, arith}
use Rattle.jiff_core.specs.Calendar.{weekday_number}
use Rattle.jiff_core.specs.Weekday.{monday_zero}
use Rattle.jiff_core.proofs.SignedLemmas.{signed_arith}
use Rattle.fx_primitives.proofs.MonthLemmas.{weekday_is}
use Rattle.fx_primitives.proofs.date_parts.weekday.Goals as goal

pub returns : goal.returns
returns c =
    let w : monday_zero c.weekday.result ≡ weekday_number c.args.day = c.weekday.ensures ∙ ap weekday_number c.plain_date.ensures.number in
    let is = weekday_is c.args.day in
    omega (arith, signed_arith)
