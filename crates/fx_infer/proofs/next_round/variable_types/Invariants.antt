use Rattle.std.proofs.Common.{◌≡◌, ◌++◌, drop, map}
use Rattle.fx_types.specs.TypeView.{shape}
use Rattle.fx_types.specs.Types.{blanks}
use Rattle.fx_typing.specs.Rounds as rounds
use Rattle.fx_core.specs.declared.names.Variable.{Variable}
use Rattle.fx_infer.specs.GivenView.{given_type_view}
use Rattle.fx_infer.proofs.next_round.variable_types.Given as goal

-- what is left, behind what is there, is the whole
abbrev pub invariant-loop-variable : goal.invariant-loop-variable
invariant-loop-variable l =
    map shape l.types.items ++ map (λ (x : Variable). rounds.variable_join x blanks (map given_type_view l.given)) (drop l.variable-index l.variables)
    ≡ map (λ (x : Variable). rounds.variable_join x blanks (map given_type_view l.given)) l.variables
