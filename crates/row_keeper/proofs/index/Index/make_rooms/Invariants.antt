use Rattle.std.proofs.Common.{◌≡◌, true, take}
use Rattle.row_keeper.specs.Entries.{IndexEntry, HasEntryRoom, is_entry_among, now_in, then_in}
use Rattle.row_keeper.proofs.index.Index.make_rooms.Given as goal

abbrev pub invariant-loop-entry : goal.invariant-loop-entry
invariant-loop-entry l =
    ((q : IndexEntry) → now_in l.self.entries.entries q ≡ now_in l.initial.self.entries.entries q)
    × ((q : IndexEntry) → then_in l.self.entries.entries q ≡ then_in l.initial.self.entries.entries q)
    × ((q : IndexEntry) → HasEntryRoom l.initial.self.touched.items l.initial.self.entries.entries q → HasEntryRoom l.self.touched.items l.self.entries.entries q)
    × ((q : IndexEntry) → is_entry_among (take l.entry-index l.entries) q ≡ true → HasEntryRoom l.self.touched.items l.self.entries.entries q)
