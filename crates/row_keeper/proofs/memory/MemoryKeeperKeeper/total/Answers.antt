use Rattle.std.proofs.Common.{◌∙◌, Some, ap, arith, filter, length, map, subst, sym}
use Rattle.fx_types.specs.ValueView.{view}
use Rattle.row_queries.specs.Answers.{IsTotalAnswer}
use Rattle.row_queries.specs.Queries.{IsTotalled, lies}
use Rattle.row_queries.specs.TableRows.{rows_at, value_at, values_of}
use Rattle.row_queries.specs.Visits.{VisitsAtLeast}
use Rattle.row_queries.specs.declared.rows.Row.{Row}
use Rattle.row_keeper.specs.InMemory.{InMemory}
use Rattle.row_keeper.specs.StoreView.{StoreView, tables_now}
use Rattle.row_keeper.specs.Tables.{rows_of_tables, shapes_of}
use Rattle.row_keeper.proofs.AnswerLemmas.{all_counted, totalled}
use Rattle.row_keeper.proofs.HeldLemmas.{of_kept}
use Rattle.row_keeper.proofs.memory.MemoryKeeperKeeper.total.Goals as goal

pub returns-clause-totals : goal.returns-clause-totals
returns-clause-totals c =
    let q = c.args.query.now in
    let values = ap (map view) c.as_slice-2.ensures.value ∙ c.in_ok-values.ensures ∙ ap (map (λ (r : Row). value_at (values_of r) c.args.column)) c.as_slice.ensures.value in
    let sums = totalled q (rows_at (rows_of_tables c.self.inside.store.now) q.table) c.in_ok-asked.asked.items c.in_ok-rows.rows.items c.args.column (map view c.as_slice-2.result.now) c.totals.result
    c.in_ok-asked.ensures.asked c.in_ok-rows.ensures values c.totals.ensures in (
      subst (λ (w : InMemory). IsTotalled q (rows_at (rows_of_tables w.store.now) q.table) c.args.column c.totals.result) c.self.view_is sums,
      ap (λ (w : InMemory). tables_now w.store) c.in_ok-asked.ensures.same ∙ ap (λ (w : InMemory). tables_now w.store) c.self.view_is,
    )

pub returns-clause-answer : goal.returns-clause-answer
returns-clause-answer c =
    let q = c.args.query.now in
    let values = ap (map view) c.as_slice-2.ensures.value ∙ c.in_ok-values.ensures ∙ ap (map (λ (r : Row). value_at (values_of r) c.args.column)) c.as_slice.ensures.value in
    let sums = totalled q (rows_at (rows_of_tables c.self.inside.store.now) q.table) c.in_ok-asked.asked.items c.in_ok-rows.rows.items c.args.column (map view c.as_slice-2.result.now) c.totals.result
    c.in_ok-asked.ensures.asked c.in_ok-rows.ensures values c.totals.ensures in
    let still = ap (λ (w : InMemory). w.store) c.in_ok-asked.ensures.same in
    subst (λ (w : InMemory). IsTotalAnswer (shapes_of w.store.schema) (Some (rows_of_tables c.ask.new.self.store.now)) q c.args.column c.totals.result) c.self.view_is
    (subst (λ (s : StoreView). IsTotalAnswer (shapes_of c.self.inside.store.schema) (Some (rows_of_tables s.now)) q c.args.column c.totals.result) (sym still)
    (of_kept (shapes_of c.self.inside.store.schema) (rows_of_tables c.self.inside.store.now) q (λ t rows. IsTotalled q rows c.args.column c.totals.result) c.are_held.ensures (λ t. sums)))

pub returns-clause-counted : goal.returns-clause-counted
returns-clause-counted c =
    let q = c.args.query.now in
    let asked = c.in_ok-asked.asked.items in
    let least = c.in_ok-asked.ensures.least in
    let before = ap (λ (w : InMemory). w.visited) c.self.view_is in
    let here : VisitsAtLeast (length asked) c.self.inside.visited c.ask.new.self.visited = omega (arith, least, before) in
    subst (λ (w : InMemory). VisitsAtLeast (length (filter (lies q) (rows_at (rows_of_tables w.store.now) q.table))) w.visited c.ask.new.self.visited) c.self.view_is
    (all_counted q (rows_at (rows_of_tables c.self.inside.store.now) q.table) asked c.self.inside.visited c.ask.new.self.visited c.in_ok-asked.ensures.asked here)
