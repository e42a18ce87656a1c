use Rattle.std.proofs.Common.{◌≡◌, ◌++◌, drop, map, take}
use Rattle.row_keeper.specs.OneTable.{view_settled}
use Rattle.row_keeper.proofs.puts.settle_all.Given as goal

abbrev pub invariant-loop-table : goal.invariant-loop-table
invariant-loop-table l = l.tables ≡ map view_settled (take l.table-index l.initial.tables) ++ drop l.table-index l.initial.tables
