use Rattle.std.proofs.Common.{◌≡◌, length, map}
use Rattle.std.specs.List.{find}
use Rattle.fx_types.specs.ValueView.{view}
use Rattle.fx_tables.specs.Unions.{is_fault}
use Rattle.fx_deeds.specs.Done.{errors_in}
use Rattle.fx_deeds.proofs.updates.first_of_changes.Given as goal

abbrev pub invariant-loop-change : goal.invariant-loop-change
invariant-loop-change l = find is_fault (errors_in (map view l.rest)) ≡ find is_fault (errors_in (map view l.changes))

abbrev pub decreases-loop-change : goal.decreases-loop-change
decreases-loop-change l = length l.rest
