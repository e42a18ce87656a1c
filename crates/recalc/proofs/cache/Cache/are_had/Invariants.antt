use Rattle.std.proofs.Common.{◌≡◌, ℕ, ◌<◌, IsSome, Some, true, slice_get}
use Rattle.fx_core.specs.declared.sources.Source.{Source}
use Rattle.recalc.specs.app_cells.Leaning.{cell_behind}
use Rattle.recalc.specs.app_semantics.Needed.{is_alone}
use Rattle.recalc.specs.Kept.{stamp_of}
use Rattle.recalc.proofs.cache.Cache.are_had.Given as goal

abbrev pub invariant-loop-source : goal.invariant-loop-source
invariant-loop-source l = (j : ℕ) (s : Source) → j < l.source-index → slice_get l.sources j ≡ Some s → (d : ℕ) → cell_behind l.app.names s ≡ Some d → is_alone l.app.cells d ≡ true → IsSome (stamp_of l.self d)
