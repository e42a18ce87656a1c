use Rattle.std.proofs.Common.{take}
use Rattle.row_queries.specs.TableRows.{AreCellsOf}
use Rattle.row_lines.proofs.lines.cells_of.Given as goal

abbrev pub invariant-loop-column : goal.invariant-loop-column
invariant-loop-column l = AreCellsOf (take l.column-index l.columns) l.cells
