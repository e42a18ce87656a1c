use Rattle.sqlite.specs.Held.{state}
use Rattle.sql_contents.specs.Contents.{lines_in}
use Rattle.store_model.specs.Ends.{call_failed}
use Rattle.store_reading.proofs.StayLemmas.{stays_anyway}
use Rattle.store_rows.specs.Puts.{OverRow}
use Rattle.store_rows.proofs.PutLemmas.{itself, stays_so}
use Rattle.store_rows.proofs.RuleLemmas.{room_is}
use Rattle.store_rows.proofs.puts.put_over_body.Goals as goal

pub returns-in-Ok-clause-stays : goal.returns-in-Ok-clause-stays
returns-in-Ok-clause-stays g c = stays_anyway (state g.S.Store c.args.conn.now) (state g.S.Store c.broken_rule.new.conn) (call_failed c.change_unless.result) c.in-Ok.ensures.stays

pub returns-in-Ok-clause-told : goal.returns-in-Ok-clause-told
returns-in-Ok-clause-told g c = λ clean rest n h rows last there.
    let kept = lines_in (state g.S.Store c.args.conn.now).now.trees c.args.tab in
    let columns = c.args.shape.now.columns in
    let room = room_is kept columns c.args.changes.now n c.args.room h rows last in
    c.change_unless.ensures.told kept c.args.room.all n h there (c.in-Ok.ensures.rule clean rest h.changes room)

pub returns-in-Err-clause-told : goal.returns-in-Err-clause-told
returns-in-Err-clause-told g c = λ clean rest n h rows last there.
    let kept = lines_in (state g.S.Store c.args.conn.now).now.trees c.args.tab in
    let columns = c.args.shape.now.columns in
    stays_so kept columns c.args.changes.now c.args.changes.now n (itself c.args.changes.now) h (OverRow columns c.args.room.all c.args.id c.args.cells.now) c.in-Err.end
