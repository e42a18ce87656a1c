use Rattle.std.proofs.Common.{◌≡◌, length}
use Rattle.std.specs.List.{find}
use Rattle.fx_tables.specs.Unions.{is_fault}
use Rattle.fx_deeds.specs.RowValues.{values_among}
use Rattle.fx_deeds.proofs.row_changes.error_among.Given as goal

abbrev pub invariant-loop-change : goal.invariant-loop-change
invariant-loop-change l = find is_fault (values_among l.rest) ≡ find is_fault (values_among l.changes)

abbrev pub decreases-loop-change : goal.decreases-loop-change
decreases-loop-change l = length l.rest
