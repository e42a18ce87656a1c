use Rattle.std.proofs.Common.{arith}
use Rattle.row_keeper.proofs.RuleLemmas.{at_slice}
use Rattle.row_keeper.specs.declared.keeper.KeeperEnd.TheVariants.{Failed}
use Rattle.sqlite.specs.Held.{state}
use Rattle.store_keeper.proofs.AskCalls.{not_read, read_so}
use Rattle.store_keeper.proofs.acting.ask_table.Goals as goal

pub returns-in_default : goal.returns-in_default
returns-in_default g c = not_read (state g.S.Store c.args.conn.now) c.args.schema.now c.args.tables.now c.args.query.now Failed

pub returns-then-place-tables : goal.returns-then-place-tables
returns-then-place-tables g c = not_read (state g.S.Store c.args.conn.now) c.args.schema.now c.args.tables.now c.args.query.now Failed

pub returns : goal.returns
returns g c =
    let q = c.args.query.now in
    read_so (state g.S.Store c.args.conn.now) (state g.S.Store c.ask.new.conn) c.args.schema.now c.args.tables.now q c.in-Some.shape.now c.index-tables-place.result c.ask.result c.in-Some.ensures
    (at_slice c.args.tables.now q.table c.index-tables-place.result (omega arith) c.index-tables-place.is) c.ask.ensures.stays c.ask.ensures.asked
