use Rattle.recalc.specs.Carrying.{IsBegunAnew}
use Rattle.office.proofs.Rounds.{IsSoFar}
use Rattle.office.proofs.keeping.begin_all_anew.Given as goal

abbrev pub invariant-loop-at : goal.invariant-loop-at
invariant-loop-at l = IsSoFar (λ k. IsBegunAnew l.app) l.at l.fn.caches.items l.caches.items
