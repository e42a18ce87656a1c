use Rattle.std.proofs.Common.{◌≡◌, map}
use Rattle.fx_tables.specs.ColumnCalls.{CanAddColumns, with_columns}
use Rattle.fx_tables.specs.NewColumn.{column_seen}
use Rattle.fx_tables.proofs.column_calls.rows_with.Given as goal

abbrev pub invariant-loop-column : goal.invariant-loop-column
invariant-loop-column l = record {
  value : with_columns (map column_seen l.column-iterator.rest.items) l.wider ≡ with_columns (map column_seen l.fn.columns.items) l.fn.rows;
  free : CanAddColumns (map column_seen l.column-iterator.rest.items) l.wider;
}
