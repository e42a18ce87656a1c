use Rattle.std.proofs.Common.{◌≡◌, ◌+◌, drop, length, map}
use Rattle.fx_types.specs.ValueView.{view}
use Rattle.fx_eval.specs.TableCalls.{value_found}
use Rattle.fx_eval.proofs.conditions.first_that_holds.Given as goal

abbrev pub invariant-loop-condition : goal.invariant-loop-condition
invariant-loop-condition l = record {
  value : value_found (map view (drop l.condition-index l.conditions)) (map view l.left.rest.items) ≡ value_found (map view l.conditions) (map view l.fn.values.items);
  long : length l.left.rest.items + l.condition-index ≡ length l.conditions;
}
