use Rattle.std.proofs.Common.{arith, subst, sym}
use Rattle.row_queries.specs.TableRows.{AreCellsOf}
use Rattle.row_lines.proofs.CellLemmas.{scalar_in}
use Rattle.row_lines.proofs.LineLemmas.{line_tells}
use Rattle.row_lines.proofs.lines.line_of.Goals as goal

pub push_cell-requires : goal.push_cell-requires
push_cell-requires c =
    scalar_in c.args.columns.now c.as_slice-items.result.now c.loop-cell.cell-index c.cell-item.result
    (subst (AreCellsOf c.args.columns.now) (sym c.as_slice-items.ensures) c.requires) c.loop-cell-test.true c.cell-item.is

pub returns-clause-told : goal.returns-clause-told
returns-clause-told c =
    line_tells c.args.columns.now c.as_slice-items.result.now c.loop-cell.cell-index c.args.cells.now c.loop-cell.body.items c.as_slice-items.ensures (omega arith)
    c.loop-cell.invariant.written c.loop-cell.invariant.short c.requires c.cells_are_proper.ensures
