use Rattle.std.proofs.Common.{◌≡◌, ℕ, ◌<◌, None, get_or}
use Rattle.recalc.proofs.cache.drop_stamps.Given as goal

abbrev pub invariant-loop-stamp : goal.invariant-loop-stamp
invariant-loop-stamp l = (k : ℕ) → k < l.stamp-index → get_or l.stamps k None ≡ None
