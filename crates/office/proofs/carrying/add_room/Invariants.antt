use Rattle.std.proofs.Common.{◌≡◌, ◌++◌, drop, map, take}
use Rattle.office.specs.Rooms.{with_room}
use Rattle.office.proofs.carrying.add_room.Given as goal

abbrev pub invariant-loop-session : goal.invariant-loop-session
invariant-loop-session l = l.sessions ≡ map (with_room l.names) (take l.session-index l.initial.sessions) ++ drop l.session-index l.initial.sessions
