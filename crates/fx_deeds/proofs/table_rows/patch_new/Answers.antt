use Rattle.std.proofs.Common.{◌≡◌, ◌∙◌, ap, subst, sym}
use Rattle.row_queries.specs.TableRows.{AreCellsOf}
use Rattle.fx_deeds.proofs.Cells.{blanks_fit, changed_cells_fit}
use Rattle.fx_deeds.specs.RowValues.{blank_cells, changed_cells}
use Rattle.fx_deeds.proofs.Attempts.{attempt_none}
use Rattle.fx_deeds.proofs.table_rows.patch_new.Goals as goal

pub make_row-requires-clause-cells : goal.make_row-requires-clause-cells
make_row-requires-clause-cells g c =
    let p = c.args.shape.now in
    let blanks = c.as_slice.ensures ∙ c.in_ok-blanks.ensures ∙ ap blank_cells c.as_slice-columns.ensures in
    let cells : c.in_ok-cells.cells ≡ changed_cells p.columns c.args.changes.now (blank_cells p.columns) = c.in_ok-cells.ensures ∙ (λ i. changed_cells (c.as_slice-columns.ensures i) c.args.changes.now (blanks i)) in
    subst (AreCellsOf p.columns) (sym cells) (changed_cells_fit p c.requires.shape.1 c.requires.can.0.0 c.args.changes.now c.requires.can.0.1 c.requires.can.1 (blank_cells p.columns) (blanks_fit p))

pub returns-in_err-blanks-clause-attempt : goal.returns-in_err-blanks-clause-attempt
returns-in_err-blanks-clause-attempt g c = attempt_none _ _

pub returns-in_err-cells-clause-attempt : goal.returns-in_err-cells-clause-attempt
returns-in_err-cells-clause-attempt g c = attempt_none _ _
