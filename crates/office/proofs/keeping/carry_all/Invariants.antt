use Rattle.recalc.specs.Carrying.{IsCarried}
use Rattle.office.proofs.Rounds.{IsSoFar}
use Rattle.office.proofs.keeping.carry_all.Given as goal

abbrev pub invariant-loop-at : goal.invariant-loop-at
invariant-loop-at l = IsSoFar (λ k. IsCarried l.old l.new) l.at l.fn.caches.items l.caches.items
