use Rattle.std.proofs.Common.{◌∙◌, ◌+◌, ap, sym, cond, drop, Some}
use Rattle.fx_types.specs.ValueView.{view}
use Rattle.row_keeper.specs.RowRules.{first_broken, lacks}
use Rattle.row_keeper.proofs.RuleLemmas.{at_slice, broken_step}
use Rattle.store_rows.proofs.columns.first_lacking.Goals as goal

pub returns-then-is_lacking-clause-first : goal.returns-then-is_lacking-clause-first
returns-then-is_lacking-clause-first c =
    let b = lacks in
    let place = c.loop-place.place in
    let step = broken_step b c.args.columns.now c.args.cells.now place c.index-columns-place.result (view c.in-Some.cell.now) (at_slice c.args.columns.now place c.index-columns-place.result c.loop-place-test.true c.index-columns-place.is) c.in-Some.ensures in
    sym (sym c.loop-place.invariant ∙ step ∙ ap (λ t. cond t (Some (place + 1)) (first_broken b (place + 1 + 1) (drop (place + 1) c.args.columns.now) (drop (place + 1) c.args.cells.now))) (sym (c.is_lacking.ensures (place + 1)) ∙ c.if-is_lacking.true))

pub loop-place-preserved : goal.loop-place-preserved
loop-place-preserved c =
    let b = lacks in
    let place = c.loop-place.place in
    let step = broken_step b c.args.columns.now c.args.cells.now place c.index-columns-place.result (view c.in-Some.cell.now) (at_slice c.args.columns.now place c.index-columns-place.result c.loop-place-test.true c.index-columns-place.is) c.in-Some.ensures in
    sym (step ∙ ap (λ t. cond t (Some (place + 1)) (first_broken b (place + 1 + 1) (drop (place + 1) c.args.columns.now) (drop (place + 1) c.args.cells.now))) (sym (c.is_lacking.ensures (place + 1)) ∙ c.if-is_lacking.false)) ∙ c.loop-place.invariant
