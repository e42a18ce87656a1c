use Rattle.std.proofs.Common.{◌≡◌, ◌++◌, length}
use Rattle.fx_deeds.specs.RowValues.{cells_in}
use Rattle.fx_deeds.proofs.row_changes.record_cells.Given as goal

abbrev pub invariant-loop-column : goal.invariant-loop-column
invariant-loop-column l = l.cells ++ cells_in l.rest l.row ≡ cells_in l.columns l.row

abbrev pub decreases-loop-column : goal.decreases-loop-column
decreases-loop-column l = length l.rest
