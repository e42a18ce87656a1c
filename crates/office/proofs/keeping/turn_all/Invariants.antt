use Rattle.std.proofs.Common.{◌≡◌, ◌+◌, length}
use Rattle.std.specs.List.{AllByRecursion}
use Rattle.fx_types.specs.ValueView.{view}
use Rattle.fx_scalar.specs.ScalarFunctions.{IsToday}
use Rattle.office.specs.Caches.{IsTurned}
use Rattle.office.proofs.Rounds.{IsSoFar}
use Rattle.office.proofs.keeping.turn_all.Given as goal

abbrev pub invariant-loop-at : goal.invariant-loop-at
invariant-loop-at l = record {
  done : IsSoFar (λ k. IsTurned l.moment) l.at l.fn.caches.items l.caches.items;
  left : length l.days.items + l.at ≡ length l.fn.caches.items;
  days : AllByRecursion (λ d. IsToday l.moment (view d)) l.days.items;
}
