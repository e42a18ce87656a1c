use Rattle.std.proofs.Common.{◌≡◌, take}
use Rattle.row_keeper.specs.Covered.{entries_of}
use Rattle.row_keeper.proofs.table.entries_for.Given as goal

abbrev pub invariant-loop-column : goal.invariant-loop-column
invariant-loop-column l = l.entries.items ≡ entries_of (take l.column-index l.covered) l.id l.cells
