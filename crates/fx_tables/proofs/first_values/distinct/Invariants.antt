use Rattle.std.proofs.Common.{map, take}
use Rattle.std.specs.List.{All}
use Rattle.fx_types.specs.ValueView.{view}
use Rattle.fx_value.specs.Keys.{IsProper}
use Rattle.fx_tables.specs.Seen.{HoldsFirsts}
use Rattle.fx_tables.proofs.first_values.distinct.Given as goal

abbrev pub invariant-loop-value : goal.invariant-loop-value
invariant-loop-value l = record {
  firsts : HoldsFirsts l.seen l.rows.items (map view (take l.value-index l.values));
  proper : All IsProper (map view (take l.value-index l.values));
}
