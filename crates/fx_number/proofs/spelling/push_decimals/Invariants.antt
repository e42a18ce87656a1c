use Rattle.std.proofs.Common.{◌≡◌, ◌++◌, ◌<◌, length, string_bytes}
use Rattle.fx_number.specs.Spelling.{without_end_zeros, four_digits}
use Rattle.fx_number.proofs.spelling.push_decimals.Given as goal

abbrev pub invariant-loop-rest : goal.invariant-loop-rest
invariant-loop-rest l =
    (l.rest < 10000)
    × (string_bytes l.text ++ without_end_zeros (four_digits l.rest) ≡ string_bytes l.fn.text ++ without_end_zeros (four_digits l.fn.fraction))

abbrev pub decreases-loop-rest : goal.decreases-loop-rest
decreases-loop-rest l = length (without_end_zeros (four_digits l.rest))
