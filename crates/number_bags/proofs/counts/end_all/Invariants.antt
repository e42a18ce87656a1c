use Rattle.std.proofs.Common.{ℤ, ◌≡◌, cond, take}
use Rattle.number_bags.specs.Entries.{ended, is_one_of, count_at}
use Rattle.number_bags.proofs.counts.end_all.Given as goal

abbrev pub invariant-loop-number : goal.invariant-loop-number
invariant-loop-number l = (q : ℤ) → count_at l.entries.entries q ≡ cond (is_one_of (take l.number-index l.touched) q) (ended l.with_changes (count_at l.initial.entries.entries q)) (count_at l.initial.entries.entries q)
