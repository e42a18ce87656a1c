use Rattle.std.proofs.Common.{◌≡◌}
use Rattle.fx_number.specs.Decimal.{power_of, ArePowersInRange}
use Rattle.fx_number.proofs.arithmetic.whole_power.Given as goal

abbrev pub invariant-loop : goal.invariant-loop
invariant-loop l = (l.power ≡ power_of l.a l.counter) × ArePowersInRange l.a l.counter
