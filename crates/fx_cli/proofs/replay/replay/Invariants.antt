use Rattle.std.proofs.Common.{◌≡◌, ◌≤◌, List, length}
use Rattle.fx_base.specs.Silence.{IsLater}
use Rattle.fx_base.specs.Telling.{Tells}
use Rattle.app_wire.specs.Moments.{Ticks}
use Rattle.fx_cli.specs.Conversations.{Conversation, HeldInTurn, Sends, all_moments, office_at}
use Rattle.fx_cli.proofs.replay.replay.Given as goal

abbrev pub invariant-loop-held : goal.invariant-loop-held
invariant-loop-held g l =
    let told = g.D.Doors.told in
    let faults = g.D.Doors.faults in
    let single = g.D.Doors.single in
    let clock = g.C.Clock.told in
    record {
      told : (cs : List Conversation) × Ticks (clock l.fn.clock) (all_moments cs) (clock l.clock)
          × HeldInTurn (single l.fn.doors) (office_at l.fn.office) (faults l.fn.doors) cs (office_at l.office) (faults l.doors)
          × (length cs ≡ l.held) × Tells (Sends (single l.fn.doors) cs) (told l.fn.doors) (told l.doors);
      single : single l.doors ≡ single l.fn.doors;
      later : faults l.fn.doors ≤ faults l.doors;
      marks : IsLater l.fn.office.marks l.office.marks;
      loan : l.office.loan ≡ l.fn.office.loan;
    }
