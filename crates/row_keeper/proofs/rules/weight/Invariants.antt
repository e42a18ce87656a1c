use Rattle.std.proofs.Common.{◌≡◌, ◌-◌, ◌^◌, min, take, map}
use Rattle.fx_types.specs.ValueView.{view}
use Rattle.row_keeper.specs.RowRules.{cells_weight}
use Rattle.row_keeper.proofs.rules.weight.Given as goal

abbrev pub invariant-loop-cell : goal.invariant-loop-cell
invariant-loop-cell l = l.sum ≡ min (cells_weight (map view (take l.cell-index l.items))) (2 ^ 64 - 1)
