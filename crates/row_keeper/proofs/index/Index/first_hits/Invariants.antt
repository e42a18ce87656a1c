use Rattle.std.proofs.Common.{◌≡◌, take}
use Rattle.row_keeper.specs.Entries.{ids_in}
use Rattle.row_keeper.proofs.index.Index.first_hits.Given as goal

abbrev pub invariant-loop-range : goal.invariant-loop-range
invariant-loop-range l = l.found.items ≡ take l.most (ids_in l.column (take l.range-index l.ranges) l.self.entries.entries)
