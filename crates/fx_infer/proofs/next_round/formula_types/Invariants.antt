use Rattle.std.proofs.Common.{◌≡◌, ◌++◌, drop, map}
use Rattle.fx_types.specs.TypeView.{shape}
use Rattle.fx_typing.specs.Rounds as rounds
use Rattle.fx_infer.specs.CellView.{cell}
use Rattle.fx_infer.proofs.next_round.formula_types.Given as goal

-- what is left, behind what is there, is the whole
abbrev pub invariant-loop-formula : goal.invariant-loop-formula
invariant-loop-formula l =
    map shape l.types.items ++ map (rounds.formula_type l.names (map cell l.cells)) (drop l.formula-index l.formulas)
    ≡ map (rounds.formula_type l.names (map cell l.cells)) l.formulas
