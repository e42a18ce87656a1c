use Rattle.std.proofs.Common.{ℕ, ◌<◌, ◌≤◌}
use Rattle.fx_primitives.specs.Search.{StandsAt}
use Rattle.fx_primitives.proofs.search.find_from.Given as goal

abbrev pub invariant-loop-place : goal.invariant-loop-place
invariant-loop-place l = (k : ℕ) → l.from ≤ k → k < l.place → ¬ StandsAt l.part l.text k
