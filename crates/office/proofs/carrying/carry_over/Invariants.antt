use Rattle.std.proofs.Common.{◌≡◌, ◌++◌, drop, take}
use Rattle.office.specs.Replacing.{all_over}
use Rattle.office.proofs.carrying.carry_over.Given as goal

abbrev pub invariant-loop-session : goal.invariant-loop-session
invariant-loop-session l = l.sessions ≡ all_over l.old l.new (take l.session-index l.initial.sessions) ++ drop l.session-index l.initial.sessions
