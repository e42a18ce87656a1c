use Rattle.std.proofs.Common.{◌≡◌, cond, take}
use Rattle.row_keeper.specs.Entries.{IndexEntry, entry_ended, is_entry_among, mark_at}
use Rattle.row_keeper.proofs.index.end_all.Given as goal

abbrev pub invariant-loop-entry : goal.invariant-loop-entry
invariant-loop-entry l = (q : IndexEntry) → mark_at l.entries.entries q ≡ cond (is_entry_among (take l.entry-index l.touched) q) (entry_ended l.with_changes (mark_at l.initial.entries.entries q)) (mark_at l.initial.entries.entries q)
