use Rattle.store_writing.specs.Ending.{AreEndedTo}
use Rattle.store_writing.proofs.ending.end_each.Given as goal

abbrev pub invariant-loop-table : goal.invariant-loop-table
invariant-loop-table l = AreEndedTo l.with_changes l.table-index l.initial.tables l.tables
