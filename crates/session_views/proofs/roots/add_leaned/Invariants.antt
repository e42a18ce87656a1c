use Rattle.std.proofs.Common.{◌≡◌, Some, true}
use Rattle.recalc.specs.app_cells.Leaning.{cell_behind}
use Rattle.recalc.specs.app_semantics.Needed.{is_alone}
use Rattle.session_views.proofs.Gathering.{Adds, UpTo}
use Rattle.session_views.proofs.roots.add_leaned.Given as goal

abbrev pub invariant-loop-source : goal.invariant-loop-source
invariant-loop-source l =
    Adds (UpTo (λ s k. cell_behind l.app.names s ≡ Some k) l.info.reads l.source-index) (λ k. is_alone l.app.cells k ≡ true) l.fn.roots.items l.roots.items
