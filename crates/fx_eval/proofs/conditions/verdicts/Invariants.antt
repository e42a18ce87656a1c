use Rattle.std.proofs.Common.{◌≡◌, length, map}
use Rattle.fx_types.specs.ValueView.{view}
use Rattle.fx_eval.specs.Given.{argument_values}
use Rattle.fx_eval.specs.TableCalls.{AreFormulas, verdicts, verdicts_behind}
use Rattle.fx_eval.proofs.conditions.verdicts.Given as goal

abbrev pub invariant-loop-condition : goal.invariant-loop-condition
invariant-loop-condition l = record {
  value : verdicts_behind (map view l.verdicts.items) (map argument_values l.condition-iterator.rest.items) ≡ verdicts l.rows (map argument_values l.fn.conditions.items);
  fine : AreFormulas (length l.rows) (map argument_values l.condition-iterator.rest.items);
  long : length l.verdicts.items ≡ length l.rows;
}
