use Rattle.std.proofs.Common.{take, map}
use Rattle.std.specs.List.{AllByRecursion}
use Rattle.fx_types.specs.ValueView.{view}
use Rattle.fx_value.specs.Keys.{IsProper}
use Rattle.row_keeper.proofs.keys.cells_are_proper.Given as goal

abbrev pub invariant-loop-cell : goal.invariant-loop-cell
invariant-loop-cell l = AllByRecursion IsProper (map view (take l.cell-index l.items))
