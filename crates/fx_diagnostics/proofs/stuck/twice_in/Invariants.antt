use Rattle.std.proofs.Common.{◌≡◌, drop, take, []}
use Rattle.fx_core.specs.Tree.{tree_field_names}
use Rattle.fx_typing.specs.Details.{twice_after}
use Rattle.fx_diagnostics.proofs.stuck.twice_in.Given as goal

abbrev pub invariant-loop-place : goal.invariant-loop-place
invariant-loop-place l =
    twice_after (tree_field_names (take l.place l.fields)) (tree_field_names (drop l.place l.fields)) ≡ twice_after [] (tree_field_names l.fields)
