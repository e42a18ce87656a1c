use Rattle.std.proofs.Common.{◌≡◌, ◌⊎◌, ℕ, ◌<◌, length, Some, true, slice_get}
use Rattle.fx_core.specs.Reads.{IsAmong}
use Rattle.fx_core.specs.declared.sources.Source.{Source}
use Rattle.recalc.specs.app_cells.Leaning.{cell_behind}
use Rattle.recalc.specs.app_semantics.Needed.{is_alone}
use Rattle.recalc.specs.Needing.{is_marked}
use Rattle.recalc.proofs.dirty_cells.mark_leaned.Given as goal

abbrev pub invariant-loop-source : goal.invariant-loop-source
invariant-loop-source l = record {
  long : length l.marks ≡ length l.fn.marks;
  still : (k : ℕ) → is_marked l.fn.marks k ≡ true → is_marked l.marks k ≡ true;
  there : (j : ℕ) (s : Source) → j < l.source-index → slice_get l.sources j ≡ Some s → (d : ℕ) → cell_behind l.app.names s ≡ Some d → is_alone l.app.cells d ≡ true → is_marked l.marks d ≡ true;
  only : (k : ℕ) → is_marked l.marks k ≡ true → (is_marked l.fn.marks k ≡ true) ⊎ ((s : Source) × IsAmong s l.sources × (cell_behind l.app.names s ≡ Some k) × (is_alone l.app.cells k ≡ true));
}
