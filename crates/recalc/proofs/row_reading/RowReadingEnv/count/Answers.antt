use Rattle.std.proofs.Common.{List, Option, map, subst, sym}
use Rattle.fx_types.specs.ValueView.{view}
use Rattle.recalc.proofs.RowTellings.{tables_over}
use Rattle.row_keeper.specs.Tables.{rows_told, shapes_of}
use Rattle.row_keeper.specs.Shaped.{Shaped}
use Rattle.row_queries.specs.Answers.{IsCountAnswer}
use Rattle.row_queries.specs.Queries.{IsQuery}
use Rattle.row_queries.specs.declared.rows.Row.{Row}
use Rattle.recalc.proofs.row_reading.RowReadingEnv.count.Goals as goal

pub count-requires-clause-query : goal.count-requires-clause-query
count-requires-clause-query g c = subst (λ (o : Shaped). IsQuery (shapes_of o.now) c.args.query.now) (sym c.args.self.now.shaped) c.requires.query

pub returns-in-Ok-clause-value : goal.returns-in-Ok-clause-value
returns-in-Ok-clause-value g c =
    let r = c.args.self.now in
    let told = g.K.Keeper.told c.count.new.self in
    subst (λ (rows : Option (List (List Row))). IsCountAnswer r.names.now.schema.tables rows c.args.query.now c.in-Ok.number)
    (sym (tables_over (view r.today.now) r.names.now r.session.now (map view r.values.now) (g.K.Keeper.began c.count.new.self) told))
    (subst (λ (o : Shaped). IsCountAnswer (shapes_of o.now) (rows_told told) c.args.query.now c.in-Ok.number) r.shaped c.in-Ok.ensures.answer)
