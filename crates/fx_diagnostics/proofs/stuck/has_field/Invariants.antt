use Rattle.std.proofs.Common.{◌≡◌, drop}
use Rattle.fx_core.specs.Tree.{tree_field_names}
use Rattle.fx_core.specs.ColumnLists.{is_one_of}
use Rattle.fx_diagnostics.proofs.stuck.has_field.Given as goal

abbrev pub invariant-loop-other : goal.invariant-loop-other
invariant-loop-other l = is_one_of l.name (tree_field_names (drop l.other-index l.fields)) ≡ is_one_of l.name (tree_field_names l.fields)
