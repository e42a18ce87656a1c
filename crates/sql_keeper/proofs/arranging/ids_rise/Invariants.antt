use Rattle.std.proofs.Common.{take}
use Rattle.sql_keeper.proofs.AskedLemmas.{RiseTo}
use Rattle.sql_keeper.proofs.arranging.ids_rise.Given as goal

abbrev pub invariant-loop-row : goal.invariant-loop-row
invariant-loop-row l = RiseTo l.last (take l.row-index l.rows)
