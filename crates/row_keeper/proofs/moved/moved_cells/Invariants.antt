use Rattle.std.proofs.Common.{◌≡◌, map, take}
use Rattle.row_keeper.specs.MovedTables.{moved_cell}
use Rattle.row_keeper.proofs.moved.moved_cells.Given as goal

abbrev pub invariant-loop-column : goal.invariant-loop-column
invariant-loop-column l = l.cells ≡ map (moved_cell l.row) (take l.column-index l.from)
