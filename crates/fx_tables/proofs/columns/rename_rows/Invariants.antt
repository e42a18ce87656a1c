use Rattle.std.proofs.Common.{◌≡◌, ◌++◌, map}
use Rattle.fx_value.specs.Columns.{LacksColumn, field_renamed}
use Rattle.fx_tables.proofs.columns.rename_rows.Given as goal

abbrev pub invariant-loop-row : goal.invariant-loop-row
invariant-loop-row l = record {
  value : l.changed.items ++ map (field_renamed l.from l.to) l.row-iterator.rest.items ≡ map (field_renamed l.from l.to) l.fn.rows;
  lacks : LacksColumn l.to l.row-iterator.rest.items;
}
