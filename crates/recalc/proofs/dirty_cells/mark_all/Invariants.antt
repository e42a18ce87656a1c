use Rattle.std.proofs.Common.{◌≡◌, ◌⊎◌, ℕ, ◌<◌, length, true, slice_index_or}
use Rattle.std.specs.List.{Contains}
use Rattle.recalc.specs.Needing.{is_marked}
use Rattle.recalc.proofs.dirty_cells.mark_all.Given as goal

abbrev pub invariant-loop-cell : goal.invariant-loop-cell
invariant-loop-cell l = record {
  long : length l.marks ≡ length l.fn.marks;
  there : (j : ℕ) → j < l.cell-index → is_marked l.marks (slice_index_or l.cells j 0) ≡ true;
  only : (k : ℕ) → is_marked l.marks k ≡ true → (is_marked l.fn.marks k ≡ true) ⊎ Contains l.cells k;
}
