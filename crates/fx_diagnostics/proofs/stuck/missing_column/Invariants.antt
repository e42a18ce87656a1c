use Rattle.std.proofs.Common.{◌≡◌, drop, map}
use Rattle.fx_types.specs.Types.{column_list}
use Rattle.fx_typing.specs.Details.{stuck_sought}
use Rattle.fx_typing.specs.TypedView.{piece_view}
use Rattle.fx_diagnostics.proofs.stuck.missing_column.Given as goal

abbrev pub invariant-loop-one : goal.invariant-loop-one
invariant-loop-one l =
    stuck_sought (map (λ p. piece_view p.now) (drop l.one-index l.pieces)) (column_list l.columns) ≡ stuck_sought (map (λ p. piece_view p.now) l.pieces) (column_list l.columns)
