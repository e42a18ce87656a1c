use Rattle.std.proofs.Common.{◌≡◌, ◌<◌, ℕ, Some}
use Rattle.std.specs.Prelude.{slice_get}
use Rattle.fx_core.specs.Reads.{IsAmong}
use Rattle.fx_core.specs.declared.sources.Source.{Source}
use Rattle.recalc.specs.Carrying.{IsOldSource}
use Rattle.recalc.proofs.trees.are_old_reads.Given as goal

abbrev pub invariant-loop-source : goal.invariant-loop-source
invariant-loop-source l = (j : ℕ) (x : Source) → j < l.source-index → slice_get l.sources j ≡ Some x → (r : Source) × IsAmong r l.were × IsOldSource l.old l.new x r
