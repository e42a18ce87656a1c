use Rattle.recalc.specs.Filling.{IsFilling}
use Rattle.recalc.proofs.cache.Cache.carry.Given as goal

abbrev pub invariant-loop-number : goal.invariant-loop-number
invariant-loop-number l = IsFilling l.old l.new l.fn.self l.from l.number-index l.self
