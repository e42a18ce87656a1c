use Rattle.std.proofs.Common.{◌≡◌, ◌++◌, length, map}
use Rattle.fx_types.specs.ValueView.{view}
use Rattle.fx_semantics.specs.Around.{record_of}
use Rattle.fx_deeds.proofs.filtering.records.Given as goal

abbrev pub invariant-loop-row : goal.invariant-loop-row
invariant-loop-row l = map view l.records.items ++ map record_of l.rest ≡ map record_of l.rows

abbrev pub decreases-loop-row : goal.decreases-loop-row
decreases-loop-row l = length l.rest
