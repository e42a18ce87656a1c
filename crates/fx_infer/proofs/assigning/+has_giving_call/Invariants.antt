use Rattle.std.proofs.Common.{◌≡◌}
use Rattle.fx_core.specs.Tree.{tree_size}
use Rattle.fx_infer.specs.Assigning.{have_giving_call}
use Rattle.fx_infer.specs.Below.{forest_from, forest_of}
use Rattle.fx_infer.proofs.assigning.+has_giving_call.Given as goal

abbrev pub decreases-has_giving_call : goal.decreases-has_giving_call
decreases-has_giving_call l = tree_size l.whole.now

-- what is left decides
abbrev pub invariant-loop-place : goal.invariant-loop-place
invariant-loop-place l =
    have_giving_call l.names (forest_from l.place (forest_of l.whole)) ≡ have_giving_call l.names (forest_of l.whole)
