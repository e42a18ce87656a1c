use Rattle.std.proofs.Common.{◌≡◌, ◌++◌, drop}
use Rattle.fx_core.specs.Tree.{tree_field_names}
use Rattle.fx_infer.proofs.admitting.names_in.Given as goal

abbrev pub invariant-loop-name : goal.invariant-loop-name
invariant-loop-name l = l.names.items ++ tree_field_names (drop l.name-index l.fields) ≡ tree_field_names l.fn.fields
