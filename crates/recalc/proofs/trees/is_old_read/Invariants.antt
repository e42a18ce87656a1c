use Rattle.std.proofs.Common.{◌≡◌, ◌<◌, ℕ, Some}
use Rattle.std.specs.Prelude.{slice_get}
use Rattle.fx_core.specs.declared.sources.Source.{Source}
use Rattle.recalc.specs.Carrying.{IsOldSource}
use Rattle.recalc.proofs.trees.is_old_read.Given as goal

abbrev pub invariant-loop-was : goal.invariant-loop-was
invariant-loop-was l = (j : ℕ) (r : Source) → j < l.was-index → slice_get l.were j ≡ Some r → IsOldSource l.old l.new l.source r → ⊥
