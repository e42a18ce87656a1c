use Rattle.std.proofs.Common.{None, length}
use Rattle.session_state.specs.CarriedOver.{control_was}
use Rattle.session_state.proofs.Moving.{AreMoving}
use Rattle.session_state.proofs.carrying_over.carry_kept.Given as goal

abbrev pub invariant-loop-place : goal.invariant-loop-place
invariant-loop-place g l =
    AreMoving (control_was l.old l.new) None (length l.new) l.fn.from.items l.from.items l.to.items l.to.len l.to.cap l.place
