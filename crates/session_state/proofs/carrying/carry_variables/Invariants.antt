use Rattle.std.proofs.Common.{length}
use Rattle.fx_types.specs.Values.{blank}
use Rattle.session_state.specs.Carrying.{variable_was}
use Rattle.session_state.proofs.Moving.{IsMoving}
use Rattle.session_state.proofs.carrying.carry_variables.Given as goal

abbrev pub invariant-loop-place : goal.invariant-loop-place
invariant-loop-place l =
    IsMoving (variable_was l.old l.new) blank (length l.new.variables) l.fn.from.items l.from.items l.to.items l.to.len l.to.cap l.place
