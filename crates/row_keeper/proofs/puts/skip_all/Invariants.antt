use Rattle.std.proofs.Common.{◌≡◌, ◌++◌, drop, map, take}
use Rattle.row_keeper.specs.Skips.{passed_now}
use Rattle.row_keeper.proofs.puts.skip_all.Given as goal

abbrev pub invariant-loop-table : goal.invariant-loop-table
invariant-loop-table l = l.tables ≡ map (passed_now l.number) (take l.table-index l.initial.tables) ++ drop l.table-index l.initial.tables
