use Rattle.std.proofs.Common.{length}
use Rattle.fx_types.specs.Values.{tab, no_rows}
use Rattle.session_state.specs.Carrying.{collection_was}
use Rattle.session_state.proofs.Moving.{IsMoving}
use Rattle.session_state.proofs.carrying.carry_collections.Given as goal

abbrev pub invariant-loop-place : goal.invariant-loop-place
invariant-loop-place l =
    IsMoving (collection_was l.old l.new) (tab no_rows) (length l.new.collections) l.fn.from.items l.from.items l.to.items l.to.len l.to.cap l.place
