use Rattle.std.proofs.Common.{length, map, ap, arith, sym, subst}
use Rattle.std.specs.Prelude.{IsSomeAnd, slice_get}
use Rattle.std.specs.List.{All}
use Rattle.fx_core.specs.declared.schema.TableShape.{TableShape}
use Rattle.row_queries.specs.Queries.{first_outcome_fault, outcome_on}
use Rattle.row_queries.specs.TableRows.{IsRowOf}
use Rattle.row_queries.specs.declared.rows.RowList.{RowList}
use Rattle.row_keeper.specs.Tables.{shapes_of}
use Rattle.row_keeper.proofs.AnswerLemmas.{answer_fits, answer_short}
use Rattle.sql_keeper.proofs.AskedLemmas.{scanned}
use Rattle.sql_keeper.proofs.keeper.SqlKeeper.answer.Goals as goal

pub returns-clause-fit : goal.returns-clause-fit
returns-clause-fit c =
    let q = c.args.query.now in
    let asked = c.in_ok-asked.asked.items in
    let fits = answer_fits (slice_get (shapes_of c.args.self.now.schema) q.table) q asked (first_outcome_fault (map (outcome_on q) asked)) c.in_ok-asked.ensures.fit in
    subst (λ (a : RowList). IsSomeAnd (slice_get (shapes_of c.args.self.now.schema) q.table) (λ (t : TableShape). All (IsRowOf t) a.rows)) (sym c.in_ok-answer.ensures) fits

pub returns-clause-least : goal.returns-clause-least
returns-clause-least c =
    let q = c.args.query.now in
    let asked = c.in_ok-asked.asked.items in
    let short = answer_short q asked (first_outcome_fault (map (outcome_on q) asked)) in
    let rows = ap (λ (a : RowList). length a.rows) c.in_ok-answer.ensures in
    let least = c.in_ok-asked.ensures.least in
    omega (arith, short, rows, least)

pub returns-clause-answer : goal.returns-clause-answer
returns-clause-answer c = scanned (shapes_of c.args.self.now.schema) c.args.query.now c.in_ok-asked.asked.items _ c.in_ok-asked.ensures.asked c.in_ok-answer.ensures
