use Rattle.std.proofs.Common.{◌≡◌, ◌++◌, drop, map}
use Rattle.fx_typing.specs.Rounds as rounds
use Rattle.fx_resolve.specs.PartView.{judged_part}
use Rattle.fx_infer.specs.GivenView.{given_type_view}
use Rattle.fx_infer.proofs.giving.give_rows.Given as goal

-- what is left, behind what is there, is the whole
abbrev pub invariant-loop-value : goal.invariant-loop-value
invariant-loop-value l =
    map given_type_view l.given.items ++ rounds.rows_given_to (rounds.to_collection l.name) (map judged_part (drop l.value-index l.values))
    ≡ map given_type_view l.fn.given.items ++ rounds.rows_given_to (rounds.to_collection l.name) (map judged_part l.values)
