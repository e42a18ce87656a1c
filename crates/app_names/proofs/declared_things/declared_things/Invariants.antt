use Rattle.std.proofs.Common.{◌≡◌, ◌++◌}
use Rattle.std.specs.List.{filter}
use Rattle.app_names.specs.Declarations.{declared_in, is_declared}
use Rattle.app_names.specs.Tops.{is_name_in_set}
use Rattle.app_names.proofs.declared_things.declared_things.Given as goal

abbrev pub invariant-loop-one : goal.invariant-loop-one
invariant-loop-one l =
    l.declared.items ++ filter (is_declared (is_name_in_set l.given)) l.one-iterator.rest.items ≡ filter (is_declared (is_name_in_set l.given)) (declared_in l.functions l.cell.screen l.cell.expr)
