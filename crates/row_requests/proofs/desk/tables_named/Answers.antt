use Rattle.row_requests.proofs.Naming.{named_more}
use Rattle.row_requests.proofs.desk.tables_named.Goals as goal

pub loop-change-preserved : goal.loop-change-preserved
loop-change-preserved c =
    named_more c.args.schema.now.tables c.args.changes.now c.loop-change.change-index c.change-item.result c.loop-change.tables.items c.add.new.sources.items c.table_named.result
    c.loop-change-test.true c.change-item.is c.loop-change.invariant c.table_named.ensures c.in_ok-add.ensures
