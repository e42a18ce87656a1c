use Rattle.std.proofs.Common.{arith}
use Rattle.store_rows.proofs.TableLemmas.{count_more}
use Rattle.store_rows.proofs.tables.all_rows.Goals as goal

pub loop-count-preserved : goal.loop-count-preserved
loop-count-preserved c =
    let more = count_more c.args.counts.now c.loop-count.count-index (record { now = 0; then = 0 }) c.loop-count-test.true in
    let was = c.loop-count.invariant in
    let now = c.saturating_add-sum.ensures in
    omega (arith, more, was, now)
