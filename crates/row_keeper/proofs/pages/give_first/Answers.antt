use Rattle.std.proofs.Common.{List, arith, refl, subst, sym}
use Rattle.std.specs.Prelude.{IsSomeAnd, slice_get}
use Rattle.std.specs.List.{All}
use Rattle.fx_core.specs.declared.schema.TableShape.{TableShape}
use Rattle.row_queries.specs.TableRows.{IsRowOf, rows_at}
use Rattle.row_queries.specs.declared.rows.Row.{Row}
use Rattle.row_keeper.specs.Pages.{QueryGives}
use Rattle.row_keeper.specs.Tables.{rows_of_tables, shapes_of}
use Rattle.row_keeper.proofs.AnswerLemmas.{asks, first_fits, judged_rows, no_faults, page_is}
use Rattle.row_keeper.proofs.pages.give_first.Goals as goal

pub judge-requires : goal.judge-requires
judge-requires c = asks (shapes_of c.args.store.now.schema) c.args.query.now c.in_ok-first.first.items c.requires.query c.in_ok-first.ensures.fit

pub returns-then-are_enough-clause-given : goal.returns-then-are_enough-clause-given
returns-then-are_enough-clause-given c =
    let q = c.args.query.now in
    let rows = rows_at (rows_of_tables c.args.store.now.now) q.table in
    let first = c.in_ok-first.first.items in
    let judged = c.in_ok-judged.judged.rows.items in
    let able = asks (shapes_of c.args.store.now.schema) q first c.requires.query c.in_ok-first.ensures.fit in
    let met = judged_rows q first judged c.in_ok-judged.judged.fault (no_faults q first able c.requires.page.sound) c.in_ok-judged.ensures in
    subst (λ (l : List Row). QueryGives q rows l c.len-asked.result) (sym c.first_rows.ensures)
    (page_is q rows first judged c.args.most c.args.size c.len-asked.result c.len.result c.requires.page c.in_ok-first.ensures.first c.in_ok-first.ensures.able met (omega (arith, c.len-asked.ensures, c.in_ok-first.first.ok.0)) (omega (arith, c.len.ensures, c.in_ok-judged.judged.rows.ok.0)) (c.if-are_enough.ensures refl))

pub returns-then-are_enough-clause-fit : goal.returns-then-are_enough-clause-fit
returns-then-are_enough-clause-fit c =
    let q = c.args.query.now in
    let first = c.in_ok-first.first.items in
    let judged = c.in_ok-judged.judged.rows.items in
    let able = asks (shapes_of c.args.store.now.schema) q first c.requires.query c.in_ok-first.ensures.fit in
    let met = judged_rows q first judged c.in_ok-judged.judged.fault (no_faults q first able c.requires.page.sound) c.in_ok-judged.ensures in
    subst (λ (l : List Row). IsSomeAnd (slice_get (shapes_of c.args.store.now.schema) q.table) (λ (t : TableShape). All (IsRowOf t) l)) (sym c.first_rows.ensures)
    (first_fits (slice_get (shapes_of c.args.store.now.schema) q.table) q first judged c.in_ok-first.ensures.fit met)
