use Rattle.std.proofs.Common.{◌≡◌, length, map}
use Rattle.fx_types.specs.Types.{column_list}
use Rattle.fx_typing.specs.Details.{stuck_renamed}
use Rattle.fx_typing.specs.TypedView.{piece_view}
use Rattle.fx_diagnostics.proofs.stuck.stuck_rename.Given as goal

abbrev pub invariant-loop-more : goal.invariant-loop-more
invariant-loop-more l =
    stuck_renamed (map (λ p. piece_view p.now) l.more) (column_list l.columns) ≡ stuck_renamed (map (λ p. piece_view p.now) l.fn.pieces) (column_list l.fn.columns)

abbrev pub decreases-loop-more : goal.decreases-loop-more
decreases-loop-more l = length l.more
