use Rattle.std.proofs.Common.{ℕ, ◌<◌, ◌≤◌, length, get_or}
use Rattle.depend_graph.proofs.closed_path.least_place.Given as goal

abbrev pub invariant-loop-place : goal.invariant-loop-place
invariant-loop-place l = (l.least < length l.numbers) × ((k : ℕ) → k < l.place → get_or l.numbers l.least 0 ≤ get_or l.numbers k 0)
