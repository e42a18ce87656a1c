use Rattle.std.proofs.Common.{◌≡◌, ◌++◌, drop}
use Rattle.fx_core.specs.Tree.{tree_field_names, places_of}
use Rattle.app_names.specs.Declarations.{variables_in}
use Rattle.app_names.proofs.declarations.declare_variables.Given as goal

abbrev pub invariant-loop-name : goal.invariant-loop-name
invariant-loop-name l =
    l.found.items ++ variables_in l.screen (tree_field_names (drop l.name-index l.fields)) (places_of (drop l.name-index l.fields))
    ≡ l.fn.found.items ++ variables_in l.screen (tree_field_names l.fields) (places_of l.fields)
