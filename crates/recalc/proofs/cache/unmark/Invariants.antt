use Rattle.std.proofs.Common.{◌≡◌, ℕ, ◌<◌, ◌≤◌, None, get_or}
use Rattle.recalc.specs.Clearing.{stamp_unmarked}
use Rattle.recalc.proofs.cache.unmark.Given as goal

abbrev pub invariant-loop-stamp : goal.invariant-loop-stamp
invariant-loop-stamp l = record {
  done : (k : ℕ) → k < l.stamp-index → get_or l.stamps k None ≡ stamp_unmarked (get_or l.fn.stamps k None);
  rest : (k : ℕ) → l.stamp-index ≤ k → get_or l.stamps k None ≡ get_or l.fn.stamps k None;
}
