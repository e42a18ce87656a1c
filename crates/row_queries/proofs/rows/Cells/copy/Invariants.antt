use Rattle.std.proofs.Common.{◌≡◌, take}
use Rattle.row_queries.proofs.rows.Cells.copy.Given as goal

abbrev pub invariant-loop-cell : goal.invariant-loop-cell
invariant-loop-cell l = l.items.items ≡ take l.cell-index l.cell-items
