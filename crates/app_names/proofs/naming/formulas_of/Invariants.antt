use Rattle.std.proofs.Common.{◌≡◌, ◌++◌, drop}
use Rattle.app_names.specs.AppNames.{formulas_from}
use Rattle.app_names.proofs.naming.formulas_of.Given as goal

abbrev pub invariant-loop-cell : goal.invariant-loop-cell
invariant-loop-cell l = (l.number ≡ l.cell-index) × (l.formulas ++ formulas_from l.number (drop l.cell-index l.cells) ≡ formulas_from 0 l.cells)
