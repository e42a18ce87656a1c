use Rattle.std.proofs.Common.{◌≡◌, ◌++◌, length}
use Rattle.fx_types.specs.Types.{column_list}
use Rattle.fx_types.specs.TypeView.{columns_view}
use Rattle.fx_types.specs.ValueView.{fields_view}
use Rattle.fx_deeds.specs.RowValues.{blank_row}
use Rattle.fx_deeds.proofs.collections.blank_row.Given as goal

abbrev pub invariant-loop-column : goal.invariant-loop-column
invariant-loop-column l = fields_view l.items.items ++ blank_row (column_list (columns_view l.rest)) ≡ blank_row (column_list l.columns)

abbrev pub decreases-loop-column : goal.decreases-loop-column
decreases-loop-column l = length l.rest
