use Rattle.std.proofs.Common.{◌≡◌, map, take}
use Rattle.fx_types.specs.ValueView.{view}
use Rattle.fx_tables.specs.AggregateCalls.{characters_in, separated}
use Rattle.fx_tables.proofs.texts.parts.Given as goal

abbrev pub invariant-loop-value : goal.invariant-loop-value
invariant-loop-value l = l.parts.items ≡ separated l.separator (map characters_in (map view (take l.value-index l.values)))
