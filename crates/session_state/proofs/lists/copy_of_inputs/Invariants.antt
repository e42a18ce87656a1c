use Rattle.std.proofs.Common.{◌≡◌, take}
use Rattle.session_state.proofs.lists.copy_of_inputs.Given as goal

abbrev pub invariant-loop-input : goal.invariant-loop-input
invariant-loop-input l = l.all.items ≡ take l.input-index l.inputs
