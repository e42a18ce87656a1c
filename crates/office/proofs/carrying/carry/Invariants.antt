use Rattle.std.proofs.Common.{◌≡◌, ◌++◌, drop, take}
use Rattle.office.specs.DeskEdits.{all_carried}
use Rattle.office.proofs.carrying.carry.Given as goal

abbrev pub invariant-loop-session : goal.invariant-loop-session
invariant-loop-session l = l.sessions ≡ all_carried l.old l.new (take l.session-index l.initial.sessions) ++ drop l.session-index l.initial.sessions
