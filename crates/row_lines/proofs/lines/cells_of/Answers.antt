use Rattle.std.proofs.Common.{◌+◌, take, subst, sym}
use Rattle.fx_types.specs.ValueView.{view}
use Rattle.row_queries.specs.TableRows.{AreCellsOf}
use Rattle.row_lines.proofs.CellLemmas.{cells_on}
use Rattle.row_lines.proofs.lines.cells_of.Goals as goal

pub loop-column-preserved : goal.loop-column-preserved
loop-column-preserved c =
    let fits = rw c.in-Some-2.is at c.in_ok-value.ensures in
    subst (AreCellsOf (take (c.loop-column.column-index + 1) c.args.columns.now)) (sym c.in_ok-push.ensures.ok)
    (cells_on c.args.columns.now c.loop-column.column-index c.column-item.result c.loop-column.cells (view c.in-Some-2.value) c.loop-column.invariant c.loop-column-test.true c.column-item.is fits.0 fits.1)
