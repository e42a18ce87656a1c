use Rattle.std.proofs.Common.{◌≡◌, ℕ, ◌<◌, Some, true, slice_get}
use Rattle.fx_core.specs.declared.sources.Source.{Source}
use Rattle.recalc.specs.app_cells.Leaning.{cell_behind}
use Rattle.recalc.specs.Clearing.{is_marked_cell}
use Rattle.recalc.proofs.cache.Cache.is_any_marked.Given as goal

abbrev pub invariant-loop-source : goal.invariant-loop-source
invariant-loop-source l = (j : ℕ) (s : Source) → j < l.source-index → slice_get l.sources j ≡ Some s → (d : ℕ) → cell_behind l.app.names s ≡ Some d → is_marked_cell l.self d ≡ true → ⊥
