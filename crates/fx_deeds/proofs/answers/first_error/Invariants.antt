use Rattle.std.proofs.Common.{◌≡◌, map}
use Rattle.std.specs.List.{find}
use Rattle.fx_types.specs.ValueView.{view}
use Rattle.fx_tables.specs.Unions.{is_fault}
use Rattle.fx_deeds.proofs.answers.first_error.Given as goal

abbrev pub invariant-loop-value : goal.invariant-loop-value
invariant-loop-value l = find is_fault (map view l.rest) ≡ find is_fault (map view l.values)

abbrev pub decreases-loop-value : goal.decreases-loop-value
decreases-loop-value l = Rattle.std.proofs.Common.length l.rest
