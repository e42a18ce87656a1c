use Rattle.std.proofs.Common.{◌≡◌, ◌≤◌, ◌-◌, length, take}
use Rattle.fx_base.specs.Telling.{Tells}
use Rattle.fx_cli.specs.Telling.{Grows}
use Rattle.fx_cli.proofs.sink.write_all.Given as goal

abbrev pub invariant-writing : goal.invariant-writing
invariant-writing g l =
    let told = g.O.Sink.told in
    let faults = g.O.Sink.faults in
    record {
      within : l.at ≤ length l.text;
      told : Tells (Grows (take l.at l.text)) (told l.fn.out) (told l.out);
      same : faults l.out ≡ faults l.fn.out;
    }

abbrev pub decreases-writing : goal.decreases-writing
decreases-writing g l = length l.text - l.at
