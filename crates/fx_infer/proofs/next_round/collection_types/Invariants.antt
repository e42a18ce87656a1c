use Rattle.std.proofs.Common.{◌≡◌, ◌++◌, drop, map}
use Rattle.fx_types.specs.TypeView.{shape}
use Rattle.fx_types.specs.Types.{blanks}
use Rattle.fx_typing.specs.Rounds as rounds
use Rattle.fx_core.specs.declared.names.Collection.{Collection}
use Rattle.fx_infer.specs.GivenView.{given_type_view}
use Rattle.fx_infer.proofs.next_round.collection_types.Given as goal

-- what is left, behind what is there, is the whole
abbrev pub invariant-loop-collection : goal.invariant-loop-collection
invariant-loop-collection l =
    map shape l.types.items ++ map (λ (x : Collection). rounds.collection_join x blanks (map given_type_view l.given)) (drop l.collection-index l.collections)
    ≡ map (λ (x : Collection). rounds.collection_join x blanks (map given_type_view l.given)) l.collections
