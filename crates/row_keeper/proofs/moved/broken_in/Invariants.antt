use Rattle.std.proofs.Common.{◌≡◌, drop}
use Rattle.row_keeper.specs.MovedTables.{broken_row}
use Rattle.row_keeper.proofs.moved.broken_in.Given as goal

abbrev pub invariant-loop-row : goal.invariant-loop-row
invariant-loop-row l = broken_row l.table.columns l.table.now (drop l.row-index l.row-items) ≡ broken_row l.table.columns l.table.now l.table.now.rows
