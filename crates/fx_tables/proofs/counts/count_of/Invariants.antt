use Rattle.std.proofs.Common.{◌≡◌, ◌≤◌, length, map, take}
use Rattle.std.specs.List.{filter}
use Rattle.fx_types.specs.ValueView.{view}
use Rattle.fx_tables.specs.RowCalls.{holds}
use Rattle.fx_tables.proofs.counts.count_of.Given as goal

abbrev pub invariant-loop-condition : goal.invariant-loop-condition
invariant-loop-condition l = record {
  value : l.count ≡ length (filter holds (map view (take l.condition-index l.conditions)));
  few : l.count ≤ l.condition-index;
}
