use Rattle.std.proofs.Common.{◌≡◌, true}
use Rattle.recalc.specs.app_semantics.Needed.{is_alone}
use Rattle.session_views.proofs.Gathering.{Adds, UpTo}
use Rattle.session_views.specs.Looking.{IsLeanedOn, is_control_among}
use Rattle.session_views.proofs.roots.add_all_under.Given as goal

abbrev pub invariant-loop-info : goal.invariant-loop-info
invariant-loop-info l = Adds (UpTo (IsLeanedOn l.app.names (is_control_among l.app.names l.part)) l.app.cells l.info-index) (λ k. is_alone l.app.cells k ≡ true) l.fn.roots.items l.roots.items
