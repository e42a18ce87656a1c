use Rattle.std.proofs.Common.{◌≡◌, ℕ, ◌<◌}
use Rattle.std.specs.Prelude.{map}
use Rattle.fx_types.specs.ValueView.{view}
use Rattle.fx_types.specs.Values.{blank}
use Rattle.recalc.specs.Reading.{cell_value}
use Rattle.recalc.proofs.valued.make_blank.Given as goal

abbrev pub invariant-loop-value : goal.invariant-loop-value
invariant-loop-value l = (k : ℕ) → k < l.value-index → cell_value (map view l.values) k ≡ blank
