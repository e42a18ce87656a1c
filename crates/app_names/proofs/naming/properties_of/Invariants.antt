use Rattle.std.proofs.Common.{◌≡◌, ◌++◌, drop}
use Rattle.app_names.specs.AppNames.{properties_from}
use Rattle.app_names.proofs.naming.properties_of.Given as goal

abbrev pub invariant-loop-cell : goal.invariant-loop-cell
invariant-loop-cell l = (l.number ≡ l.cell-index) × (l.properties ++ properties_from l.number (drop l.cell-index l.cells) ≡ properties_from 0 l.cells)
