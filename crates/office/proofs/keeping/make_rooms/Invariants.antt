use Rattle.office.proofs.GoingOver.{IsRoomMade}
use Rattle.office.proofs.Rounds.{IsSoFar}
use Rattle.office.proofs.keeping.make_rooms.Given as goal

abbrev pub invariant-loop-at : goal.invariant-loop-at
invariant-loop-at l = IsSoFar (IsRoomMade l.app) l.at l.fn.caches.items l.caches.items
