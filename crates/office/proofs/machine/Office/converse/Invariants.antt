use Rattle.std.proofs.Common.{List, ◌≡◌, ◌≤◌, ◌<◌, false, length}
use Rattle.fx_base.specs.Silence.{IsLater}
use Rattle.fx_base.specs.Telling.{Tells}
use Rattle.app_wire.specs.Moments.{Ticks}
use Rattle.office.specs.Answers.{Exchange, Plays, moments_of}
use Rattle.office.proofs.Plays.{Goes}
use Rattle.office.proofs.machine.Office.converse.Given as goal

abbrev pub invariant-loop-answered : goal.invariant-loop-answered
invariant-loop-answered g l =
    let told = g.D.Doors.told in
    let faults = g.D.Doors.faults in
    let single = g.D.Doors.single in
    let clock = g.C.Clock.told in
    record {
      told : (xs : List Exchange) × Ticks (clock l.fn.clock) (moments_of xs) (clock l.clock)
          × Plays l.fn.self.state l.fn.self.marks xs l.self.state l.self.marks × (length xs ≡ l.answered) × Tells (Goes xs l.framer) (told l.fn.doors) (told l.doors);
      only : 0 < l.answered → single l.fn.doors ≡ false;
      single : single l.doors ≡ single l.fn.doors;
      later : faults l.fn.doors ≤ faults l.doors;
      marks : IsLater l.fn.self.marks l.self.marks;
      loan : l.self.loan ≡ l.fn.self.loan;
    }
