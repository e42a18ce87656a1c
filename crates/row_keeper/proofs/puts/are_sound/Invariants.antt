use Rattle.std.proofs.Common.{take}
use Rattle.std.specs.List.{AllByRecursion}
use Rattle.row_keeper.specs.Sound.{IsSoundTable}
use Rattle.row_keeper.proofs.puts.are_sound.Given as goal

abbrev pub invariant-loop-table : goal.invariant-loop-table
invariant-loop-table l = AllByRecursion IsSoundTable (take l.table-index l.tables)
