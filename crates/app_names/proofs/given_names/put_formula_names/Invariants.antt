use Rattle.std.proofs.Common.{◌≡◌, ◌++◌, drop, map}
use Rattle.app_names.specs.Declarations.{formula_names}
use Rattle.app_names.proofs.given_names.put_formula_names.Given as goal

abbrev pub invariant-loop-cell : goal.invariant-loop-cell
invariant-loop-cell l = l.names.items ++ formula_names (drop l.cell-index l.cells) ≡ l.fn.names.items ++ formula_names l.cells
