use Rattle.std.proofs.Common.{◌≡◌, ◌++◌, length, map}
use Rattle.fx_types.specs.ValueView.{view}
use Rattle.fx_eval.specs.TableCalls.{with_condition}
use Rattle.fx_eval.proofs.conditions.with_one_more.Given as goal

abbrev pub invariant-loop-verdict : goal.invariant-loop-verdict
invariant-loop-verdict l = record {
  value : map view l.joined.items ++ with_condition (map view l.verdict-iterator.rest.items) (map view l.left.rest.items) ≡ with_condition (map view l.fn.verdicts.items) (map view l.fn.conditions.items);
  long : length l.left.rest.items ≡ length l.verdict-iterator.rest.items;
}
