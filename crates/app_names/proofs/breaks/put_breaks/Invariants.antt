use Rattle.std.proofs.Common.{◌≡◌, ◌++◌, ℕ, List, [], drop}
use Rattle.app_names.specs.Declarations.{is_name_among}
use Rattle.app_names.specs.NameRules.{breaks_behind}
use Rattle.app_names.specs.Tops.{is_name_in_set}
use Rattle.app_names.proofs.breaks.put_breaks.Given as goal

abbrev pub invariant-loop-cell : goal.invariant-loop-cell
invariant-loop-cell l =
    (xs : List (List ℕ)) × (is_name_in_set l.before ≡ is_name_among xs)
    × (l.breaks.items ++ breaks_behind l.functions (is_name_in_set l.given) xs l.things.items (drop l.cell-index l.cells)
    ≡ l.fn.breaks.items ++ breaks_behind l.functions (is_name_in_set l.given) l.tables [] l.cells)
