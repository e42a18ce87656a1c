use Rattle.std.proofs.Common.{◌≡◌, ◌++◌, map}
use Rattle.fx_types.specs.Values.{row_list}
use Rattle.fx_types.specs.ValueView.{view}
use Rattle.fx_tables.specs.RowCalls.{rows_by_values}
use Rattle.fx_tables.proofs.formulas.rows_by_values.Given as goal

abbrev pub invariant-loop-value : goal.invariant-loop-value
invariant-loop-value l = record {
  all : l.yielded ++ l.value-iterator.rest.items ≡ l.fn.values.items;
  value : row_list l.rows.items ≡ rows_by_values (map view l.yielded);
}
