use Rattle.std.proofs.Common.{◌≡◌, ℕ, take}
use Rattle.std.specs.BTreeSet.{contains}
use Rattle.std.specs.Ordering.{nat_cmp}
use Rattle.row_keeper.specs.Entries.{hits_in}
use Rattle.row_keeper.proofs.index.Index.hits.Given as goal

abbrev pub invariant-loop-range : goal.invariant-loop-range
invariant-loop-range l = (i : ℕ) → contains nat_cmp l.found i ≡ hits_in l.column (take l.range-index l.ranges) l.self.entries.entries i
