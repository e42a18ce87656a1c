use Rattle.std.proofs.Common.{List, length, filter, ap, arith, subst}
use Rattle.row_queries.specs.Queries.{lies}
use Rattle.row_queries.specs.TableRows.{rows_at}
use Rattle.row_queries.specs.Visits.{VisitsAtLeast}
use Rattle.row_queries.specs.declared.rows.Row.{Row}
use Rattle.row_keeper.specs.InMemory.{InMemory}
use Rattle.row_keeper.specs.Tables.{rows_of_tables}
use Rattle.row_keeper.proofs.AnswerLemmas.{all_counted, given_short}
use Rattle.row_keeper.proofs.memory.MemoryKeeperKeeper.count.Goals as goal

pub overflow_cast-result : goal.overflow_cast-result
overflow_cast-result c =
    let len = c.len.ensures in
    let rows = ap (λ (l : List Row). length l) c.in_ok-given.ensures in
    let short = given_short c.args.query.now c.in_ok-rows.rows.items in
    let few = c.in_ok-rows.ensures.few in
    omega (arith, len, rows, short, few)

pub returns-clause-counted : goal.returns-clause-counted
returns-clause-counted c =
    let q = c.args.query.now in
    let asked = c.in_ok-rows.rows.items in
    let least = c.in_ok-rows.ensures.least in
    let before = ap (λ (w : InMemory). w.visited) c.self.view_is in
    let here : VisitsAtLeast (length asked) c.self.inside.visited c.ask.new.self.visited = omega (arith, least, before) in
    subst (λ (w : InMemory). VisitsAtLeast (length (filter (lies q) (rows_at (rows_of_tables w.store.now) q.table))) w.visited c.ask.new.self.visited) c.self.view_is
    (all_counted q (rows_at (rows_of_tables c.self.inside.store.now) q.table) asked c.self.inside.visited c.ask.new.self.visited c.in_ok-rows.ensures.asked here)
