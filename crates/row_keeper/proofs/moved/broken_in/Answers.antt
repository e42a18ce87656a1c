use Rattle.std.proofs.Common.{◌∙◌, ◌+◌, Some, ap, drop, subst, sym}
use Rattle.std.specs.List.{AllByRecursion}
use Rattle.row_keeper.specs.MovedTables.{broken_row}
use Rattle.row_keeper.specs.RowRules.{first_of_two}
use Rattle.row_keeper.specs.Sound.{IsSoundRow}
use Rattle.row_keeper.proofs.MovedLemmas.{all_at, broken_here}
use Rattle.row_keeper.proofs.PutLemmas.{names, not_full}
use Rattle.row_keeper.proofs.RuleLemmas.{at_slice}
use Rattle.row_keeper.proofs.moved.broken_in.Goals as goal

pub broken_rule-requires : goal.broken_rule-requires
broken_rule-requires c =
    let rows = c.deref-row-items.result.now in
    let there = at_slice rows c.loop-row.row-index c.row-item.result c.loop-row-test.true c.row-item.is in
    let sound = all_at (IsSoundRow c.args.table.now.columns) rows c.loop-row.row-index c.row-item.result
    (subst (AllByRecursion (IsSoundRow c.args.table.now.columns)) (sym (c.deref-row-items.ensures.value ∙ c.in_ok-rows.ensures)) c.is_sound.ensures.now.rows) there in
    sound.fit

pub returns-in-Some-clause-broken : goal.returns-in-Some-clause-broken
returns-in-Some-clause-broken c =
    let t = c.args.table.now in
    let rows = c.deref-row-items.result.now in
    let i = c.loop-row.row-index in
    let there = at_slice rows i c.row-item.result c.loop-row-test.true c.row-item.is in
    sym (sym c.loop-row.invariant ∙ broken_here t.columns t.now rows i c.row-item.result there
    ∙ ap (λ o. first_of_two o (broken_row t.columns t.now (drop (i + 1) rows))) (sym c.in_ok-refusal.ensures ∙ c.in-Some.is))

pub returns-in-Some-clause-sound : goal.returns-in-Some-clause-sound
returns-in-Some-clause-sound c =
    let t = c.args.table.now in
    let e = sym c.in_ok-refusal.ensures ∙ c.in-Some.is in (
      names t.columns t.now 0 (Some c.row-item.result.id) c.row-item.result.cells c.in-Some.refusal e,
      not_full t.columns t.now 0 c.row-item.result.id c.row-item.result.cells c.in-Some.refusal e,
    )

pub loop-row-preserved : goal.loop-row-preserved
loop-row-preserved c =
    let t = c.args.table.now in
    let rows = c.deref-row-items.result.now in
    let i = c.loop-row.row-index in
    let there = at_slice rows i c.row-item.result c.loop-row-test.true c.row-item.is in
    sym (broken_here t.columns t.now rows i c.row-item.result there
    ∙ ap (λ o. first_of_two o (broken_row t.columns t.now (drop (i + 1) rows))) (sym c.in_ok-refusal.ensures ∙ c.in_default.is)) ∙ c.loop-row.invariant
