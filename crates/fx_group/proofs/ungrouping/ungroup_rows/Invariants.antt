use Rattle.std.proofs.Common.{◌≡◌, ◌++◌}
use Rattle.std.specs.Prelude.{flat_map}
use Rattle.fx_tables.specs.Groups.{CanUngroup, rows_under}
use Rattle.fx_group.proofs.ungrouping.ungroup_rows.Given as goal

abbrev pub invariant-loop-row : goal.invariant-loop-row
invariant-loop-row l = record {
  value : l.all.items ++ flat_map (rows_under l.group) l.row-iterator.rest.items ≡ flat_map (rows_under l.group) l.fn.rows;
  can : CanUngroup l.group l.row-iterator.rest.items;
}
