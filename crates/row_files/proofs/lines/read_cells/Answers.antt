use Rattle.std.proofs.Common.{◌≡◌, ◌∙◌, ◌+◌, ap, arith, drop, get_or, sym}
use Rattle.csv.specs.Records.{fields_of}
use Rattle.std.specs.Prelude.{Err}
use Rattle.std.proofs.lemmas.Result.{err_from_is_err_and}
use Rattle.fx_types.specs.ValueView.{view}
use Rattle.row_files.specs.Batches.{cell_of, cells_of, column_at}
use Rattle.row_files.proofs.Answered.{told}
use Rattle.row_files.proofs.Steps.{behind, cell_bad, cell_fine, cells_short, cells_whole, here_at}
use Rattle.row_files.proofs.lines.read_cells.Goals as goal

pub returns-in-None : goal.returns-in-None
returns-in-None c =
    let i = c.loop-place.place in
    let ks = c.args.numbers.now in
    sym c.loop-place.invariant
    ∙ cells_short c.args.columns.now c.args.at ks (fields_of c.args.line.now) i (get_or ks i 0) (here_at ks i c.loop-place-test.true) c.loop-place.cells (sym c.in-None.ensures)

pub loop-place-preserved : goal.loop-place-preserved
loop-place-preserved c =
    let columns = c.args.columns.now in
    let at = c.args.at in
    let i = c.loop-place.place in
    let ks = c.args.numbers.now in
    let fs = fields_of c.args.line.now in
    ap (λ ds. behind ds (cells_of columns at (drop (i + 1) ks) (drop (i + 1) fs))) c.in_ok-push-in-Some.ensures.ok
    ∙ sym (cell_fine columns at ks fs i (get_or ks i 0) (here_at ks i c.loop-place-test.true) c.in-Some.field.now c.loop-place.cells (view c.in_ok-read_cell-in-Some.field-0) (sym c.in-Some.ensures) c.in_ok-read_cell-in-Some.ensures)
    ∙ c.loop-place.invariant

pub returns-in_err-read_cell-in-Some : goal.returns-in_err-read_cell-in-Some
returns-in_err-read_cell-in-Some c =
    let columns = c.args.columns.now in
    let at = c.args.at in
    let i = c.loop-place.place in
    let ks = c.args.numbers.now in
    let fs = fields_of c.args.line.now in
    let f = c.in-Some.field.now in
    let e = c.in_err-read_cell-in-Some.field-0.0 in
    let p = err_from_is_err_and c.from_residual.result c.from_residual.ensures.1 in
    rw (p.1, p.2) (told e (λ r. cell_of (column_at columns (get_or ks i 0)) at f ≡ Err r) (λ r. cells_of columns at ks fs ≡ Err r)
    (λ r bad. sym c.loop-place.invariant ∙ cell_bad columns at ks fs i (get_or ks i 0) (here_at ks i c.loop-place-test.true) f c.loop-place.cells r (sym c.in-Some.ensures) bad)
    c.in_err-read_cell-in-Some.ensures)

pub returns : goal.returns
returns c =
    sym c.loop-place.invariant
    ∙ cells_whole c.args.columns.now c.args.at c.args.numbers.now (fields_of c.args.line.now) c.loop-place.place c.loop-place.cells (omega arith)
