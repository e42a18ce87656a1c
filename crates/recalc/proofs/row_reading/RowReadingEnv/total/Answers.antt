use Rattle.std.proofs.Common.{List, Option, map, subst, sym}
use Rattle.fx_types.specs.ValueView.{view}
use Rattle.recalc.proofs.RowTellings.{tables_over}
use Rattle.row_keeper.specs.Tables.{rows_told, shapes_of}
use Rattle.row_keeper.specs.Shaped.{Shaped}
use Rattle.row_queries.specs.Answers.{IsTotalAnswer}
use Rattle.row_queries.specs.Queries.{CanTotal, IsQuery}
use Rattle.row_queries.specs.declared.rows.Row.{Row}
use Rattle.recalc.proofs.row_reading.RowReadingEnv.total.Goals as goal

pub total-requires-clause-query : goal.total-requires-clause-query
total-requires-clause-query g c = subst (λ (o : Shaped). IsQuery (shapes_of o.now) c.args.query.now) (sym c.args.self.now.shaped) c.requires.query

pub total-requires-clause-column : goal.total-requires-clause-column
total-requires-clause-column g c = subst (λ (o : Shaped). CanTotal (shapes_of o.now) c.args.query.now c.args.column) (sym c.args.self.now.shaped) c.requires.column

pub returns-in-Ok-clause-value : goal.returns-in-Ok-clause-value
returns-in-Ok-clause-value g c =
    let r = c.args.self.now in
    let told = g.K.Keeper.told c.total.new.self in
    subst (λ (rows : Option (List (List Row))). IsTotalAnswer r.names.now.schema.tables rows c.args.query.now c.args.column c.in-Ok.totals)
    (sym (tables_over (view r.today.now) r.names.now r.session.now (map view r.values.now) (g.K.Keeper.began c.total.new.self) told))
    (subst (λ (o : Shaped). IsTotalAnswer (shapes_of o.now) (rows_told told) c.args.query.now c.args.column c.in-Ok.totals) r.shaped c.in-Ok.ensures.answer)
