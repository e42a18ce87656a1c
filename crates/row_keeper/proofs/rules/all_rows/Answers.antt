use Rattle.std.proofs.Common.{arith, length}
use Rattle.row_keeper.specs.TableView.{TableView}
use Rattle.row_keeper.specs.Tables.{TableState}
use Rattle.row_keeper.proofs.RuleLemmas.{sum_more}
use Rattle.row_keeper.proofs.rules.all_rows.Goals as goal

pub loop-table-preserved : goal.loop-table-preserved
loop-table-preserved c =
    let more = sum_more (λ (t : TableView). t.now) (λ (s : TableState). length s.rows) c.args.tables.now c.loop-table.table-index c.table-item.result c.loop-table-test.true c.table-item.is in
    let was = c.loop-table.invariant in
    let one = c.count.ensures in
    let now = c.saturating_add-sum.ensures in
    omega (arith, more, was, one, now)
