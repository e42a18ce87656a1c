use Rattle.std.proofs.Common.{arith}
use Rattle.store_reading.proofs.AskedLemmas.{rise_on}
use Rattle.store_reading.proofs.reading.ids_rise.Goals as goal

pub loop-row-preserved : goal.loop-row-preserved
loop-row-preserved c =
    rise_on c.args.rows.now c.loop-row.row-index c.loop-row.last c.row-item.result c.loop-row.invariant c.loop-row-test.true c.row-item.is (omega arith)
