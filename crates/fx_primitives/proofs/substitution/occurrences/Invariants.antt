use Rattle.std.proofs.Common.{ℕ, ◌+◌, ◌-◌, ◌<◌, ◌≤◌, List, length, ◌++◌}
use Rattle.fx_primitives.specs.Substitution.{AreOccurrences, AreSeparate}
use Rattle.fx_primitives.proofs.substitution.occurrences.Given as goal

-- what is found behind ends a list of all
abbrev pub invariant-search : goal.invariant-search
invariant-search l =
    (l.from ≤ length l.text)
    × ((rest : List ℕ) → AreOccurrences l.old l.text l.from rest → AreOccurrences l.old l.text 0 (l.places.items ++ rest))
    × ((rest : List ℕ) → AreSeparate (length l.old) (length l.text) l.from rest → AreSeparate (length l.old) (length l.text) 0 (l.places.items ++ rest))

abbrev pub decreases-search : goal.decreases-search
decreases-search l = length l.text - l.from
