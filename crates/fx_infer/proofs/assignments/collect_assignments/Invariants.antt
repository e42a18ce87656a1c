use Rattle.std.proofs.Common.{◌≡◌, ◌++◌, drop, map}
use Rattle.fx_typing.specs.Rounds as rounds
use Rattle.fx_infer.specs.CellView.{cell}
use Rattle.fx_infer.specs.GivenView.{given_type_view}
use Rattle.fx_infer.proofs.assignments.collect_assignments.Given as goal

-- what is left, behind what is there, is the whole
abbrev pub invariant-loop-formula : goal.invariant-loop-formula
invariant-loop-formula l =
    map given_type_view l.given.items ++ rounds.all_given l.names (map cell (drop l.formula-index l.cells))
    ≡ rounds.all_given l.names (map cell l.cells)
