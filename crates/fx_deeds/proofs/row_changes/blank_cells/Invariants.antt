use Rattle.std.proofs.Common.{◌≡◌, ◌++◌, length}
use Rattle.fx_deeds.specs.RowValues.{blank_cells}
use Rattle.fx_deeds.proofs.row_changes.blank_cells.Given as goal

abbrev pub invariant-loop-others : goal.invariant-loop-others
invariant-loop-others l = l.cells ++ blank_cells l.rest ≡ blank_cells l.columns

abbrev pub decreases-loop-others : goal.decreases-loop-others
decreases-loop-others l = length l.rest
