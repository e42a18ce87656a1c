use Rattle.std.proofs.Common.{◌≡◌, ℕ, ◌<◌, get_or}
use Rattle.recalc.proofs.cache.drop_versions.Given as goal

abbrev pub invariant-loop-version : goal.invariant-loop-version
invariant-loop-version l = (k : ℕ) → k < l.version-index → get_or l.versions k 0 ≡ 0
