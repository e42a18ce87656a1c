use Rattle.std.proofs.Common.{◌≡◌}
use Rattle.number_bags.specs.Entries.{spread_now}
use Rattle.number_bags.proofs.extremes.least.Given as goal

abbrev pub invariant-loop-number : goal.invariant-loop-number
invariant-loop-number l = spread_now l.number-iterator ≡ spread_now l.initial.number-iterator
