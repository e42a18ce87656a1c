use Rattle.std.proofs.Common.{◌≡◌, drop, map}
use Rattle.fx_types.specs.TypeView.{shape}
use Rattle.fx_types.specs.Types.{blanks}
use Rattle.fx_typing.specs.Rounds as rounds
use Rattle.fx_infer.specs.GivenView.{given_type_view}
use Rattle.fx_infer.proofs.joining.variable_join.Given as goal

-- what is left joins to the same as the whole
abbrev pub invariant-loop-next : goal.invariant-loop-next
invariant-loop-next l =
    rounds.variable_join l.variable (shape l.ty) (map given_type_view (drop l.next-index l.given))
    ≡ rounds.variable_join l.variable blanks (map given_type_view l.given)
