use Rattle.std.proofs.Common.{◌≡◌, ◌++◌, drop, map}
use Rattle.fx_types.specs.TypeView.{shape}
use Rattle.fx_typing.specs.Rounds as rounds
use Rattle.fx_infer.specs.CellView.{cell}
use Rattle.fx_infer.proofs.next_round.items_types.Given as goal

-- what is left, behind what is there, is the whole
abbrev pub invariant-loop-number : goal.invariant-loop-number
invariant-loop-number l =
    map shape l.types.items ++ rounds.items_types l.names (map cell l.cells) l.number (drop l.number l.names.controls)
    ≡ rounds.items_types l.names (map cell l.cells) 0 l.names.controls
