use Rattle.std.proofs.Common.{◌≤◌, ◌+◌, length, filter, ap, arith, subst}
use Rattle.std.proofs.lemmas.List.Sorted.{length_permutation}
use Rattle.row_queries.specs.Queries.{lies}
use Rattle.row_queries.specs.TableRows.{rows_at}
use Rattle.row_queries.specs.Visits.{VisitsItsRanges}
use Rattle.row_keeper.specs.InMemory.{InMemory}
use Rattle.row_keeper.specs.Tables.{rows_of_tables}
use Rattle.row_keeper.proofs.memory.MemoryKeeper.ask.Goals as goal

pub returns-clause-most : goal.returns-clause-most
returns-clause-most c =
    let q = c.args.query.now in
    let rows = rows_at (rows_of_tables c.self.inside.store.now) q.table in
    let most = c.visit.ensures.most in
    let seen = c.len.ensures in
    let moved = length_permutation (filter (lies q) rows) c.in_ok-rows.rows.items c.in_ok-rows.ensures.asked.rearranged in
    let before = ap (λ (w : InMemory). w.visited) c.self.view_is in
    let here : c.visit.new.self.visited ≤ c.self.inside.visited + length (filter (lies q) rows) = omega (arith, most, seen, moved, before) in
    subst (λ (w : InMemory). VisitsItsRanges q (rows_at (rows_of_tables w.store.now) q.table) w.visited c.visit.new.self.visited) c.self.view_is here
