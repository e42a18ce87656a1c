use Rattle.std.proofs.Common.{◌≡◌}
use Rattle.std.specs.Iterator.Adapters.{rev_source}
use Rattle.number_bags.specs.Entries.{spread_now}
use Rattle.number_bags.proofs.extremes.greatest.Given as goal

abbrev pub invariant-loop-number : goal.invariant-loop-number
invariant-loop-number l = spread_now (rev_source l.number-iterator) ≡ spread_now (rev_source l.initial.number-iterator)
