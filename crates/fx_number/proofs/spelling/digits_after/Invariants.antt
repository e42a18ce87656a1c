use Rattle.std.proofs.Common.{◌≡◌, drop}
use Rattle.std.specs.Str.Parse.{digits_value_after, AllDigits}
use Rattle.fx_number.proofs.spelling.digits_after.Given as goal

abbrev pub invariant-loop-digit : goal.invariant-loop-digit
invariant-loop-digit l =
    AllDigits 10 (drop l.digit-index l.digits)
    × (digits_value_after 10 l.number (drop l.digit-index l.digits) ≡ digits_value_after 10 l.start l.digits)
