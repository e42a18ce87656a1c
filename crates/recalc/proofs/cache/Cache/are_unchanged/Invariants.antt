use Rattle.std.proofs.Common.{◌≡◌, ℕ, ◌<◌, ◌≤◌, Some, false, slice_get}
use Rattle.fx_core.specs.declared.sources.Source.{Source}
use Rattle.recalc.specs.app_cells.Reach.{is_cell}
use Rattle.recalc.specs.Kept.{version_of}
use Rattle.recalc.proofs.cache.Cache.are_unchanged.Given as goal

abbrev pub invariant-loop-source : goal.invariant-loop-source
invariant-loop-source l = (j : ℕ) (s : Source) → j < l.source-index → slice_get l.sources j ≡ Some s → is_cell s ≡ false → version_of l.self s ≤ l.number
