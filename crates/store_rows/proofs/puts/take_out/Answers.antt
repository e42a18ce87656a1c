use Rattle.sqlite.specs.Held.{state}
use Rattle.sql_contents.specs.Contents.{lines_in}
use Rattle.store_model.specs.Ends.{call_failed}
use Rattle.store_reading.proofs.StayLemmas.{stays_anyway}
use Rattle.store_rows.specs.Puts.{LessRow}
use Rattle.store_rows.proofs.PutLemmas.{itself, stays_so}
use Rattle.store_rows.proofs.puts.take_out.Goals as goal

pub returns-in-Ok-clause-stays : goal.returns-in-Ok-clause-stays
returns-in-Ok-clause-stays g c = stays_anyway (state g.S.Store c.args.conn.now) (state g.S.Store c.body_now.new.conn) (call_failed c.take_if_there.result) c.in-Ok.ensures.stays

pub returns-in-Ok-clause-told : goal.returns-in-Ok-clause-told
returns-in-Ok-clause-told g c = λ clean rest columns h.
    c.take_if_there.ensures (lines_in (state g.S.Store c.args.conn.now).now.trees c.args.tab) columns h (c.in-Ok.ensures.body clean rest h.changes)

pub returns-in-Err-clause-told : goal.returns-in-Err-clause-told
returns-in-Err-clause-told g c = λ clean rest columns h.
    stays_so (lines_in (state g.S.Store c.args.conn.now).now.trees c.args.tab) columns c.args.changes.now c.args.changes.now c.args.count.now (itself c.args.changes.now) h (LessRow c.args.id) c.in-Err.end
