use Rattle.std.proofs.Common.{◌≡◌, ◌++◌, length, map}
use Rattle.fx_tables.specs.NewColumn.{column_seen}
use Rattle.fx_eval.specs.Given.{new_columns, argument_values}
use Rattle.fx_eval.specs.TableCalls.{AreNewColumns}
use Rattle.fx_eval.proofs.columns.new_columns.Given as goal

abbrev pub invariant-loop-name : goal.invariant-loop-name
invariant-loop-name l = record {
  value : map column_seen l.columns.items ++ new_columns (map argument_values l.left.rest.items) ≡ new_columns (map argument_values l.fn.answers.items);
  fine : AreNewColumns (map argument_values l.left.rest.items);
}

abbrev pub decreases-loop-name : goal.decreases-loop-name
decreases-loop-name l = length l.left.rest.items
