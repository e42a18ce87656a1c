use Rattle.std.proofs.Common.{take}
use Rattle.store_reading.proofs.AskedLemmas.{RiseTo}
use Rattle.store_reading.proofs.reading.ids_rise.Given as goal

abbrev pub invariant-loop-row : goal.invariant-loop-row
invariant-loop-row l = RiseTo l.last (take l.row-index l.rows)
