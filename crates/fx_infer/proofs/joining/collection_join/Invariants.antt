use Rattle.std.proofs.Common.{◌≡◌, drop, map}
use Rattle.fx_types.specs.TypeView.{shape}
use Rattle.fx_types.specs.Types.{blanks}
use Rattle.fx_typing.specs.Rounds as rounds
use Rattle.fx_infer.specs.GivenView.{given_type_view}
use Rattle.fx_infer.proofs.joining.collection_join.Given as goal

-- what is left joins to the same as the whole
abbrev pub invariant-loop-next : goal.invariant-loop-next
invariant-loop-next l =
    rounds.collection_join l.collection (shape l.ty) (map given_type_view (drop l.next-index l.given))
    ≡ rounds.collection_join l.collection blanks (map given_type_view l.given)
