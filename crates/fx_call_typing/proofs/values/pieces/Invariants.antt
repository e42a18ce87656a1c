use Rattle.std.proofs.Common.{◌≡◌, ◌++◌, map}
use Rattle.fx_typing.specs.Parts.{pieces}
use Rattle.fx_typing.specs.TypedView.{piece_view}
use Rattle.fx_resolve.specs.PartView.{judged_part}
use Rattle.fx_call_typing.proofs.values.pieces.Given as goal

abbrev pub invariant-loop-one : goal.invariant-loop-one
invariant-loop-one l =
    map piece_view l.found.items ++ pieces (map judged_part l.one-iterator.rest.items) ≡ pieces (map judged_part l.fn.all.items)
