use Rattle.std.proofs.Common.{◌≡◌, length}
use Rattle.std.specs.List.{find}
use Rattle.fx_types.specs.ValueView.{fields_view}
use Rattle.fx_tables.specs.Unions.{is_fault}
use Rattle.fx_deeds.specs.RowValues.{field_values}
use Rattle.fx_deeds.proofs.row_changes.error_in.Given as goal

abbrev pub invariant-loop-field : goal.invariant-loop-field
invariant-loop-field l = find is_fault (field_values (fields_view l.rest)) ≡ find is_fault (field_values l.row)

abbrev pub decreases-loop-field : goal.decreases-loop-field
decreases-loop-field l = length l.rest
