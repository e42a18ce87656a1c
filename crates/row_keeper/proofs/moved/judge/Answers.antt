use Rattle.std.proofs.Common.{◌∙◌, ◌+◌, ap, drop, subst, sym}
use Rattle.std.specs.Prelude.{IfSome, IsSomeAnd, option_map}
use Rattle.row_keeper.specs.Kept.{columns_kept}
use Rattle.row_keeper.specs.MovedTables.{IsRowRule, broken_table, first_table}
use Rattle.row_keeper.specs.TableView.{TableView, states_now}
use Rattle.row_keeper.proofs.MovedLemmas.{table_here}
use Rattle.row_keeper.proofs.RuleLemmas.{at_slice}
use Rattle.row_keeper.proofs.StoreLemmas.{at_map}
use Rattle.row_keeper.proofs.moved.judge.Goals as goal

pub returns-in-Some-clause-broken : goal.returns-in-Some-clause-broken
returns-in-Some-clause-broken c =
    let tables = c.args.tables.now in
    let place = c.loop-place.place in
    let t = c.index-tables-place.result in
    let there = at_slice tables place t c.loop-place-test.true c.index-tables-place.is in
    let rest = broken_table (place + 1) (columns_kept (drop (place + 1) tables)) (states_now (drop (place + 1) tables)) in
    sym c.loop-place.invariant ∙ table_here tables place t there
    ∙ ap (λ o. first_table (option_map (λ r. (place, r)) o) rest) (sym c.in_ok-refusal.ensures.broken ∙ c.in-Some.is)

pub returns-in-Some-clause-sound : goal.returns-in-Some-clause-sound
returns-in-Some-clause-sound c =
    let tables = c.args.tables.now in
    let place = c.loop-place.place in
    let t = c.index-tables-place.result in
    let there = at_slice tables place t c.loop-place-test.true c.index-tables-place.is in
    subst (λ o. IsSomeAnd o (λ cs. IsRowRule cs c.in-Some.refusal)) (sym (at_map (λ (x : TableView). x.columns) tables place t there))
    (subst (λ o. IfSome o (IsRowRule t.columns)) c.in-Some.is c.in_ok-refusal.ensures.sound)

pub loop-place-preserved : goal.loop-place-preserved
loop-place-preserved c =
    let tables = c.args.tables.now in
    let place = c.loop-place.place in
    let t = c.index-tables-place.result in
    let there = at_slice tables place t c.loop-place-test.true c.index-tables-place.is in
    let rest = broken_table (place + 1) (columns_kept (drop (place + 1) tables)) (states_now (drop (place + 1) tables)) in
    sym (table_here tables place t there
    ∙ ap (λ o. first_table (option_map (λ r. (place, r)) o) rest) (sym c.in_ok-refusal.ensures.broken ∙ c.in_default.is)) ∙ c.loop-place.invariant
