use Rattle.recalc.specs.Kept.{HasNumbersLeft, IsInOrder}
use Rattle.recalc.specs.app_semantics.Sound.{IsSoundApp}
use Rattle.recalc.proofs.Cleared.{IsMarking}
use Rattle.recalc.proofs.cache.Cache.clear.Given as goal

abbrev pub invariant-loop-number : goal.invariant-loop-number
invariant-loop-number l = IsSoundApp l.app → IsInOrder l.app l.fn.self → HasNumbersLeft l.fn.self.last → IsMarking l.app l.cell l.fn.self l.number-index l.self
