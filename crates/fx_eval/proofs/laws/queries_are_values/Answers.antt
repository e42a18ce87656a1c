use Rattle.fx_eval.proofs.Queried.{answers_are_worth, constants_ready, found_are_ready}
use Rattle.fx_eval.proofs.laws.queries_are_values.Goals as goal

pub returns : goal.returns
returns c = record {
  ready = constants_ready c.values_fit.ensures c.sketches_can_plan.ensures;
  worth = let a = c.answers_are_values.ensures in answers_are_worth a.scans a.first_rows a.counts a.firsts a.found a.totals c.rows_fit.ensures;
  found = found_are_ready c.values_fit.ensures c.answers_are_values.ensures.found c.rows_fit.ensures;
}
