use Rattle.std.proofs.Common.{◌≡◌, ◌++◌, map, length}
use Rattle.fx_types.specs.ValueView.{view}
use Rattle.fx_value.specs.Columns.{LacksColumn, rows_with_column}
use Rattle.fx_tables.proofs.columns.rows_with.Given as goal

abbrev pub invariant-loop-row : goal.invariant-loop-row
invariant-loop-row l = record {
  value : l.wider.items ++ rows_with_column l.name l.row-iterator.rest.items (map view l.left.rest.items) ≡ rows_with_column l.name l.fn.rows (map view l.fn.values.items);
  lacks : LacksColumn l.name l.row-iterator.rest.items;
  long : length l.left.rest.items ≡ length l.row-iterator.rest.items;
}
