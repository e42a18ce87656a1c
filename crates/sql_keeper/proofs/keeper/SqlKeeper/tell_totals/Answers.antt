use Rattle.std.proofs.Common.{◌∙◌, List, ap, map, subst}
use Rattle.fx_types.specs.ValueView.{view}
use Rattle.fx_types.specs.Values.{Data}
use Rattle.fx_value.specs.Aggregates.{SumsUp, numbers_in}
use Rattle.row_queries.specs.TableRows.{value_at, values_of}
use Rattle.row_queries.specs.declared.rows.Row.{Row}
use Rattle.row_keeper.specs.Tables.{shapes_of}
use Rattle.sql_keeper.proofs.AskedLemmas.{totalled}
use Rattle.sql_keeper.proofs.keeper.SqlKeeper.tell_totals.Goals as goal

pub returns-clause-answer : goal.returns-clause-answer
returns-clause-answer c =
    let values = ap (map view) c.as_slice-2.ensures.value ∙ c.in_ok-values.ensures ∙ ap (map (λ (r : Row). value_at (values_of r) c.args.column)) c.as_slice.ensures.value in
    totalled (shapes_of c.args.self.now.schema) c.args.query.now c.in_ok-rows.rows.items c.args.column c.totals.result c.in_ok-rows.ensures.given
    (subst (λ (ds : List Data). SumsUp (numbers_in ds) c.totals.result) values c.totals.ensures)
