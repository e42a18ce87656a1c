use Rattle.std.proofs.Common.{◌≡◌, ◌++◌, drop, map}
use Rattle.fx_typing.specs.Details.{all_pieces}
use Rattle.fx_typing.specs.TypedView.{piece_view}
use Rattle.fx_resolve.specs.PartView.{judged_part}
use Rattle.fx_diagnostics.proofs.borrowed.all_pieces.Given as goal

abbrev pub invariant-loop-one : goal.invariant-loop-one
invariant-loop-one l = map (λ p. piece_view p.now) l.found.items ++ all_pieces (map judged_part (drop l.one-index l.all)) ≡ all_pieces (map judged_part l.all)
