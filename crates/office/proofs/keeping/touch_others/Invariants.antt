use Rattle.std.proofs.Common.{◌≡◌, vec_capacity}
use Rattle.office.specs.Caches.{IsToldAside, tables_in}
use Rattle.office.proofs.Rounds.{IsSoFar}
use Rattle.office.proofs.keeping.touch_others.Given as goal

abbrev pub invariant-loop-at : goal.invariant-loop-at
invariant-loop-at l = record {
  told : IsSoFar (IsToldAside l.app l.place (tables_in l.wrote)) l.at l.fn.caches.items l.caches.items;
  capacity : vec_capacity l.caches ≡ vec_capacity l.fn.caches;
}
