use Rattle.std.proofs.Common.{arith}
use Rattle.fx_tables.proofs.KeptRows.{counted_more}
use Rattle.fx_tables.proofs.counts.count_of.Goals as goal

pub loop-condition-preserved : goal.loop-condition-preserved
loop-condition-preserved c =
    let more = counted_more c.args.conditions.now c.loop-condition.condition-index c.condition-item.result (omega arith) c.condition-item.is in
    let one = c.count_one-count.ensures.value in
    let few = c.count_one-count.ensures.bound in
    let so_far = c.loop-condition.invariant.value in
    let below = c.loop-condition.invariant.few in
    record {
      value = omega (arith, more, one, so_far);
      few = omega (arith, few, below);
    }
