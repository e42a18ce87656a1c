use Rattle.std.proofs.Common.{arith}
use Rattle.fx_types.specs.ValueView.{view}
use Rattle.fx_value.specs.Weight.{weight_of}
use Rattle.row_keeper.proofs.RuleLemmas.{sum_more}
use Rattle.row_keeper.proofs.rules.weight.Goals as goal

pub loop-cell-preserved : goal.loop-cell-preserved
loop-cell-preserved c =
    let more = sum_more view weight_of c.as_slice-items.result.now c.loop-cell.cell-index c.cell-item.result c.loop-cell-test.true c.cell-item.is in
    let was = c.loop-cell.invariant in
    let one = c.weigh.ensures in
    let now = c.saturating_add-sum.ensures in
    omega (arith, more, was, one, now)
