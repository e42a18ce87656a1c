use Rattle.std.proofs.Common.{◌∙◌, ◌+◌, ap, sym, cond, drop, Some}
use Rattle.fx_types.specs.ValueView.{view}
use Rattle.row_keeper.specs.RowRules.{first_broken, others}
use Rattle.row_keeper.specs.Rules.{breaks_by}
use Rattle.row_keeper.proofs.RuleLemmas.{at_slice, broken_step, fits_at, scalar_of}
use Rattle.row_keeper.proofs.rules.first_broken_column.Goals as goal

pub breaks-requires-clause-fit : goal.breaks-requires-clause-fit
breaks-requires-clause-fit c = fits_at c.args.table.now.columns c.args.cells.now c.loop-place.place (view c.in-Some.cell.now) c.requires c.in-Some.ensures

pub breaks-requires-clause-scalar : goal.breaks-requires-clause-scalar
breaks-requires-clause-scalar c =
    scalar_of c.args.table.now.columns c.loop-place.place (view c.in-Some.cell.now)
    (fits_at c.args.table.now.columns c.args.cells.now c.loop-place.place (view c.in-Some.cell.now) c.requires c.in-Some.ensures)

pub returns-then-branch : goal.returns-then-branch
returns-then-branch c =
    let b = breaks_by c.args.rule (others c.args.id c.args.table.now.now.rows) in
    let place = c.loop-place.place in
    let step = broken_step b c.as_slice-columns.result.now c.args.cells.now place c.index-columns-place.result (view c.in-Some.cell.now)
    (at_slice c.as_slice-columns.result.now place c.index-columns-place.result c.loop-place-test.true c.index-columns-place.is) c.in-Some.ensures in
    sym (sym c.loop-place.invariant ∙ step
    ∙ ap (λ t. cond t (Some (place + 1)) (first_broken b (place + 1 + 1) (drop (place + 1) c.as_slice-columns.result.now) (drop (place + 1) c.args.cells.now))) (sym c.in_ok-breaks.ensures ∙ c.if-branch.true))

pub loop-place-preserved : goal.loop-place-preserved
loop-place-preserved c =
    let b = breaks_by c.args.rule (others c.args.id c.args.table.now.now.rows) in
    let place = c.loop-place.place in
    let step = broken_step b c.as_slice-columns.result.now c.args.cells.now place c.index-columns-place.result (view c.in-Some.cell.now)
    (at_slice c.as_slice-columns.result.now place c.index-columns-place.result c.loop-place-test.true c.index-columns-place.is) c.in-Some.ensures in
    sym (step
    ∙ ap (λ t. cond t (Some (place + 1)) (first_broken b (place + 1 + 1) (drop (place + 1) c.as_slice-columns.result.now) (drop (place + 1) c.args.cells.now))) (sym c.in_ok-breaks.ensures ∙ c.if-branch.false)) ∙ c.loop-place.invariant
