use Rattle.std.proofs.Common.{◌≡◌, ◌++◌, drop, length, map}
use Rattle.fx_typing.specs.Local.{branches}
use Rattle.fx_typing.specs.TypedView.{typed, piece_view}
use Rattle.fx_node_typing.proofs.common.branches.Given as goal

abbrev pub invariant-loop-place : goal.invariant-loop-place
invariant-loop-place l =
    map (λ b. typed b.now) l.found.items ++ branches l.row (length l.parts) l.place (map piece_view (drop l.place l.parts))
    ≡ branches l.row (length l.parts) 0 (map piece_view l.parts)
