use Rattle.std.proofs.Common.{◌≡◌, ◌++◌, length, map}
use Rattle.fx_types.specs.ValueView.{view}
use Rattle.fx_deeds.specs.RowValues.{changed_cells}
use Rattle.fx_deeds.proofs.row_changes.changed_cells.Given as goal

abbrev pub invariant-loop-column : goal.invariant-loop-column
invariant-loop-column l = l.changed ++ changed_cells l.rest l.changes (map view l.left) ≡ changed_cells l.columns l.changes (map view l.cells)

abbrev pub decreases-loop-column : goal.decreases-loop-column
decreases-loop-column l = length l.rest
