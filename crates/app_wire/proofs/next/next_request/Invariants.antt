use Rattle.std.proofs.Common.{◌≡◌, ◌≤◌, ◌-◌, length}
use Rattle.fx_base.specs.Telling.{Tells}
use Rattle.app_wire.specs.Framing.{IsStillOpen}
use Rattle.app_wire.specs.NextRequest.{Keeps}
use Rattle.app_wire.proofs.next.next_request.Given as goal

abbrev pub invariant-reading : goal.invariant-reading
invariant-reading g l =
    let told = g.D.Doors.told in
    let faults = g.D.Doors.faults in
    let single = g.D.Doors.single in
    record {
      keeps : Tells (Keeps l.fn.framer l.framer) (told l.fn.doors) (told l.doors);
      holds : IsStillOpen l.framer;
      single : single l.doors ≡ single l.fn.doors;
      later : faults l.fn.doors ≤ faults l.doors;
    }

abbrev pub decreases-reading : goal.decreases-reading
decreases-reading g l = 1056768 - length l.framer
