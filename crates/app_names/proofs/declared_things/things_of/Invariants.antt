use Rattle.std.proofs.Common.{◌≡◌, [], drop}
use Rattle.app_names.specs.Declarations.{things_behind}
use Rattle.app_names.specs.Tops.{is_name_in_set}
use Rattle.app_names.proofs.declared_things.things_of.Given as goal

abbrev pub invariant-loop-cell : goal.invariant-loop-cell
invariant-loop-cell l =
    things_behind l.functions (is_name_in_set l.given) l.things.items (drop l.cell-index l.cells) ≡ things_behind l.functions (is_name_in_set l.given) [] l.cells
