use Rattle.std.proofs.Common.{◌≡◌, ◌++◌, map, length}
use Rattle.fx_types.specs.ValueView.{view}
use Rattle.fx_tables.specs.RowCalls.{kept_rows}
use Rattle.fx_tables.proofs.conditions.keep_rows.Given as goal

abbrev pub invariant-loop-row : goal.invariant-loop-row
invariant-loop-row l = record {
  value : l.held.items ++ kept_rows l.row-iterator.rest.items (map view l.left.rest.items) ≡ kept_rows l.fn.rows (map view l.fn.conditions.items);
  long : length l.left.rest.items ≡ length l.row-iterator.rest.items;
}
