use Rattle.std.proofs.Common.{◌≡◌, ℕ, ◌||◌}
use Rattle.std.specs.BTreeSet.{contains}
use Rattle.std.specs.Ordering.{nat_cmp}
use Rattle.row_keeper.specs.Entries.{among}
use Rattle.row_keeper.proofs.index.gather.Given as goal

abbrev pub invariant-loop-entry : goal.invariant-loop-entry
invariant-loop-entry l = (i : ℕ) → (contains nat_cmp l.found i || among l.entry-iterator i) ≡ (contains nat_cmp l.initial.found i || among l.fn.range i)
