use Rattle.std.proofs.Common.{◌≤◌, ◌+◌, List, None, length, filter, ap, arith, subst, sym}
use Rattle.row_queries.specs.Queries.{IsScanned, lies}
use Rattle.row_queries.specs.TableRows.{rows_at}
use Rattle.row_queries.specs.Visits.{VisitsAtLeast, VisitsItsRanges}
use Rattle.row_queries.specs.declared.rows.Row.{Row}
use Rattle.row_keeper.specs.InMemory.{InMemory}
use Rattle.row_keeper.specs.Pages.{CountsAsked}
use Rattle.row_keeper.specs.Tables.{rows_of_tables}
use Rattle.row_keeper.proofs.AnswerLemmas.{page_counted, scanned_is}
use Rattle.row_keeper.proofs.memory.MemoryKeeper.page.Goals as goal

pub returns-in_err-list-clause-most : goal.returns-in_err-list-clause-most
returns-in_err-list-clause-most c =
    let q = c.args.query.now in
    let rows = rows_at (rows_of_tables c.self.inside.store.now) q.table in
    let most = c.visit.ensures.most in
    let asked = c.in_ok-page.ensures.given.most in
    let before = ap (λ (w : InMemory). w.visited) c.self.view_is in
    let here : c.visit.new.self.visited ≤ c.self.inside.visited + length (filter (lies q) rows) = omega (arith, most, asked, before) in
    subst (λ (w : InMemory). VisitsItsRanges q (rows_at (rows_of_tables w.store.now) q.table) w.visited c.visit.new.self.visited) c.self.view_is here

pub returns-clause-most : goal.returns-clause-most
returns-clause-most c =
    let q = c.args.query.now in
    let rows = rows_at (rows_of_tables c.self.inside.store.now) q.table in
    let most = c.visit.ensures.most in
    let asked = c.in_ok-page.ensures.given.most in
    let before = ap (λ (w : InMemory). w.visited) c.self.view_is in
    let here : c.visit.new.self.visited ≤ c.self.inside.visited + length (filter (lies q) rows) = omega (arith, most, asked, before) in
    subst (λ (w : InMemory). VisitsItsRanges q (rows_at (rows_of_tables w.store.now) q.table) w.visited c.visit.new.self.visited) c.self.view_is here

pub returns-clause-rows : goal.returns-clause-rows
returns-clause-rows c =
    let q = c.args.query.now in
    let rows = rows_at (rows_of_tables c.self.inside.store.now) q.table in
    subst (λ (w : InMemory). IsScanned q (rows_at (rows_of_tables w.store.now) q.table) (record { rows = c.in_ok-list.field-0; fault = None })) c.self.view_is
    (subst (λ (l : List Row). IsScanned q rows (record { rows = l; fault = None })) (sym c.in_ok-list.ensures)
    (scanned_is q rows c.in_ok-page.page.rows.items c.in_ok-page.page.asked c.in_ok-page.ensures.given))

pub returns-clause-least : goal.returns-clause-least
returns-clause-least c =
    let q = c.args.query.now in
    let rows = rows_at (rows_of_tables c.self.inside.store.now) q.table in
    let page = c.in_ok-page.page in
    let least = c.visit.ensures.least in
    let before = ap (λ (w : InMemory). w.visited) c.self.view_is in
    let here : VisitsAtLeast page.asked c.self.inside.visited c.visit.new.self.visited = omega (arith, least, before) in
    subst (λ (w : InMemory). CountsAsked q (rows_at (rows_of_tables w.store.now) q.table) (length c.in_ok-list.field-0) w.visited c.visit.new.self.visited) c.self.view_is
    (subst (λ (l : List Row). CountsAsked q rows (length l) c.self.inside.visited c.visit.new.self.visited) (sym c.in_ok-list.ensures)
    (page_counted q rows page.rows.items page.asked c.self.inside.visited c.visit.new.self.visited c.in_ok-page.ensures.given here))
