use Rattle.std.proofs.Common.{ℕ, ◌<◌, get_or}
use Rattle.recalc.specs.Kept.{IsClean}
use Rattle.recalc.proofs.cache.Cache.all_stand.Given as goal

abbrev pub invariant-loop-cell : goal.invariant-loop-cell
invariant-loop-cell l = (j : ℕ) → j < l.cell-index → IsClean l.app l.self (get_or l.cells j 0)
