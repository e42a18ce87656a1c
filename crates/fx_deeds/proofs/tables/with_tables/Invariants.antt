use Rattle.std.proofs.Common.{◌≡◌, ◌++◌, length, map}
use Rattle.fx_types.specs.ValueView.{view}
use Rattle.fx_deeds.specs.RowValues.{rows_among}
use Rattle.fx_deeds.proofs.tables.with_tables.Given as goal

abbrev pub invariant-loop-table : goal.invariant-loop-table
invariant-loop-table l = l.rows ++ rows_among (map view l.rest) ≡ l.fn.rows ++ rows_among (map view l.tables)

abbrev pub decreases-loop-table : goal.decreases-loop-table
decreases-loop-table l = length l.rest
