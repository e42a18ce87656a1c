use Rattle.std.proofs.Common.{◌≡◌, ◌≤◌, ◌-◌, length, take}
use Rattle.app_wire.specs.Doorway.{Writes}
use Rattle.fx_base.specs.Telling.{Tells}
use Rattle.app_wire.proofs.doors.write_all.Given as goal

abbrev pub invariant-loop-at : goal.invariant-loop-at
invariant-loop-at g l =
    let told = g.D.Doors.told in
    let faults = g.D.Doors.faults in
    let single = g.D.Doors.single in
    record {
      within : l.at ≤ length l.bytes;
      told : Tells (Writes (take l.at l.bytes)) (told l.fn.doors) (told l.doors);
      single : single l.doors ≡ single l.fn.doors;
      later : faults l.fn.doors ≤ faults l.doors;
    }

abbrev pub decreases-loop-at : goal.decreases-loop-at
decreases-loop-at g l = length l.bytes - l.at
