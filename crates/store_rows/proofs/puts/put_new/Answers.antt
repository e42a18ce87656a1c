use Rattle.std.proofs.Common.{◌≡◌, ◌-◌, ◌^◌, ◌<◌, None, ap, refl, subst}
use Rattle.sqlite.specs.Held.{state}
use Rattle.sql_contents.specs.Contents.{lines_in}
use Rattle.row_keeper.specs.RowRules.{rule_in}
use Rattle.store_model.specs.Ends.{call_failed}
use Rattle.store_reading.proofs.StayLemmas.{stays_anyway}
use Rattle.store_rows.specs.Puts.{NewRow, state_over}
use Rattle.store_rows.specs.declared.rules.Room.{Room}
use Rattle.store_rows.proofs.PutLemmas.{itself, stays_so}
use Rattle.store_rows.proofs.RuleLemmas.{room_is}
use Rattle.store_rows.proofs.puts.put_new.Goals as goal

pub add_unless-requires-clause-room : goal.add_unless-requires-clause-room
add_unless-requires-clause-room g c = λ none. subst (λ (x : Room). x.last < 2 ^ 32 - 1) c.room_of-room.ensures (c.in-Ok.ensures.room none refl)

pub returns-in-Ok-clause-stays : goal.returns-in-Ok-clause-stays
returns-in-Ok-clause-stays g c = stays_anyway (state g.S.Store c.args.conn.now) (state g.S.Store c.broken_rule.new.conn) (call_failed c.add_unless.result) c.in-Ok.ensures.stays

pub returns-in-Ok-clause-told : goal.returns-in-Ok-clause-told
returns-in-Ok-clause-told g c = λ clean rest h.
    let kept = lines_in (state g.S.Store c.args.conn.now).now.trees c.args.tab in
    let columns = c.args.shape.now.columns in
    let is = c.room_of-room.ensures in
    let room = room_is kept columns c.args.changes.now c.args.count.now c.room_of-room.result h (ap (λ (x : Room). x.rows) is) (ap (λ (x : Room). x.last) is) in
    c.add_unless.ensures.told kept c.args.all h (subst (λ n. c.in-Ok.refusal ≡ rule_in columns (state_over kept columns c.args.changes.now) n None c.args.cells.now) (ap (λ (x : Room). x.all) is) (c.in-Ok.ensures.rule clean rest h.changes room))

pub returns-in-Err-clause-told : goal.returns-in-Err-clause-told
returns-in-Err-clause-told g c = λ clean rest h.
    let kept = lines_in (state g.S.Store c.args.conn.now).now.trees c.args.tab in
    let columns = c.args.shape.now.columns in
    stays_so kept columns c.args.changes.now c.args.changes.now c.args.count.now (itself c.args.changes.now) h (NewRow columns c.args.all c.args.cells.now) c.in-Err.end
