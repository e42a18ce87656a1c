use Rattle.row_keeper.specs.Tables.{rows_told}
use Rattle.recalc.proofs.Wholes.{scanned_whole, told_whole}
use Rattle.recalc.proofs.tables.table_value.Goals as goal

pub returns-clause-value : goal.returns-clause-value
returns-clause-value g c =
    scanned_whole c.asked_once.ensures c.args.schema.now.tables (rows_told (g.K.Keeper.told c.scan.new.keeper)) c.args.table c.in_ok-query.query c.scan.result c.in_ok-query.ensures c.scan.ensures.value

pub returns-clause-most : goal.returns-clause-most
returns-clause-most g c =
    told_whole c.args.table c.in_ok-query.query (g.K.Keeper.told c.scan.new.keeper) (g.K.Keeper.visited c.args.keeper.now) (g.K.Keeper.visited c.scan.new.keeper) c.in_ok-query.ensures c.scan.ensures.most
