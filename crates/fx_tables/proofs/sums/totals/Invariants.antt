use Rattle.std.proofs.Common.{◌≤◌, map, take}
use Rattle.fx_types.specs.ValueView.{view}
use Rattle.fx_value.specs.Aggregates.{IsBoundedSum, SumsUp, numbers_in}
use Rattle.fx_tables.proofs.sums.totals.Given as goal

abbrev pub invariant-loop-value : goal.invariant-loop-value
invariant-loop-value l = record {
  sums : SumsUp (numbers_in (map view (take l.value-index l.values))) l.totals;
  within : IsBoundedSum l.totals.count l.totals.sum;
  few : l.totals.count ≤ l.value-index;
}
