use Rattle.std.proofs.Common.{◌≡◌, true}
use Rattle.recalc.specs.app_semantics.Needed.{is_alone}
use Rattle.session_views.proofs.Gathering.{Adds, UpTo}
use Rattle.session_views.specs.Looking.{IsOwnCell, is_control_among}
use Rattle.session_views.proofs.roots.add_all_own.Given as goal

abbrev pub invariant-loop-property : goal.invariant-loop-property
invariant-loop-property l = Adds (UpTo (IsOwnCell l.app.names (is_control_among l.app.names l.part)) l.app.names.properties l.property-index) (λ k. is_alone l.app.cells k ≡ true) l.fn.roots.items l.roots.items
