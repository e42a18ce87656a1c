use Rattle.std.proofs.Common.{◌≡◌, ◌++◌, map, true, None}
use Rattle.std.specs.List.{All, find}
use Rattle.fx_types.specs.Types.{column_list}
use Rattle.fx_types.specs.Values.{row_list}
use Rattle.fx_types.specs.ValueView.{view}
use Rattle.fx_value.specs.Fits.{rows_fit}
use Rattle.fx_tables.specs.Unions.{CanBeRow, is_fault, values_as_rows}
use Rattle.fx_tables.proofs.unions.table_of.Given as goal

abbrev pub invariant-loop-value : goal.invariant-loop-value
invariant-loop-value l = record {
  all : l.yielded ++ l.value-iterator.rest.items ≡ l.fn.rows.items;
  clear : find is_fault (map view l.yielded) ≡ None;
  value : row_list l.table.items ≡ values_as_rows (column_list l.columns) (map view l.yielded);
  fits : rows_fit (row_list l.table.items) (column_list l.columns) ≡ true;
}
