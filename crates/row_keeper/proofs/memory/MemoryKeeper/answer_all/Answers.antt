use Rattle.std.proofs.Common.{length, map, ap, arith, sym, subst}
use Rattle.std.specs.Prelude.{IsSomeAnd, slice_get}
use Rattle.std.specs.List.{All}
use Rattle.fx_core.specs.declared.schema.TableShape.{TableShape}
use Rattle.row_queries.specs.Queries.{first_outcome_fault, outcome_on}
use Rattle.row_queries.specs.TableRows.{IsRowOf, rows_at}
use Rattle.row_queries.specs.declared.rows.RowList.{RowList}
use Rattle.row_keeper.specs.Tables.{rows_of_tables, shapes_of}
use Rattle.row_keeper.proofs.AnswerLemmas.{answer_fits, answer_short, asked_counted}
use Rattle.row_keeper.proofs.memory.MemoryKeeper.answer_all.Goals as goal

pub returns-clause-fit : goal.returns-clause-fit
returns-clause-fit c =
    let q = c.args.query.now in
    let asked = c.in_ok-asked.asked.items in
    let fits = answer_fits (slice_get (shapes_of c.args.self.now.store.schema) q.table) q asked (first_outcome_fault (map (outcome_on q) asked)) c.in_ok-asked.ensures.fit in
    subst (λ (a : RowList). IsSomeAnd (slice_get (shapes_of c.args.self.now.store.schema) q.table) (λ (t : TableShape). All (IsRowOf t) a.rows)) (sym c.in_ok-answer.ensures) fits

pub returns-clause-least : goal.returns-clause-least
returns-clause-least c =
    let q = c.args.query.now in
    let asked = c.in_ok-asked.asked.items in
    let short = answer_short q asked (first_outcome_fault (map (outcome_on q) asked)) in
    let rows = ap (λ (a : RowList). length a.rows) c.in_ok-answer.ensures in
    asked_counted q (rows_at (rows_of_tables c.args.self.now.store.now) q.table) asked (length c.in_ok-answer.field-0.rows) c.args.self.now.visited c.ask.new.self.visited c.in_ok-asked.ensures.asked (omega (arith, short, rows)) c.in_ok-asked.ensures.least
