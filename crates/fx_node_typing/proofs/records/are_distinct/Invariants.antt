use Rattle.std.proofs.Common.{◌≡◌, drop}
use Rattle.fx_typing.specs.Builds.{are_names_distinct}
use Rattle.fx_node_typing.proofs.records.are_distinct.Given as goal

abbrev pub invariant-loop-place : goal.invariant-loop-place
invariant-loop-place l = are_names_distinct (drop l.place l.names) ≡ are_names_distinct l.names
