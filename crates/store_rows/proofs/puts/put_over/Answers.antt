use Rattle.std.proofs.Common.{◌≡◌, ap, refl, subst, sym}
use Rattle.sqlite.specs.Effect.{Database}
use Rattle.sqlite.specs.Held.{state}
use Rattle.sqlite.specs.Tree.{Trees}
use Rattle.sql_contents.specs.Contents.{lines_in}
use Rattle.row_changes.specs.Overlay.{body_at, bytes_in, overlay}
use Rattle.store_model.specs.Ends.{call_failed}
use Rattle.store_reading.proofs.StayLemmas.{at_rest_on, early_clean, stays_then}
use Rattle.store_rows.specs.Puts.{GoesSo, IsInOrder, OverRow}
use Rattle.store_rows.specs.declared.rules.Room.{Room}
use Rattle.store_rows.proofs.PutLemmas.{itself, stays_so}
use Rattle.store_rows.proofs.puts.put_over.Goals as goal

pub returns-in-Ok-clause-stays : goal.returns-in-Ok-clause-stays
returns-in-Ok-clause-stays g c =
    stays_then (state g.S.Store c.args.conn.now) (state g.S.Store c.body_now.new.conn) (state g.S.Store c.put_over_line.new.conn) (call_failed c.put_over_line.result) c.in-Ok.ensures.stays c.put_over_line.ensures.stays

pub returns-in-Ok-clause-told : goal.returns-in-Ok-clause-told
returns-in-Ok-clause-told g c = λ clean rest h.
    let old = state g.S.Store c.args.conn.now in
    let mid = state g.S.Store c.body_now.new.conn in
    let columns = c.args.shape.now.columns in
    let changes = c.args.changes.now in
    let n = c.args.count.now in
    let early = early_clean mid (state g.S.Store c.put_over_line.new.conn) clean c.put_over_line.ensures.stays.later in
    let on = c.in-Ok.ensures.stays.rests early rest.ready refl in
    let same = ap (λ (d : Database). d.trees) (sym on.1) in
    let is = c.room_of-room.ensures in
    let body = subst (λ (trees : Trees). bytes_in c.in-Ok.was ≡ body_at c.args.id (overlay changes (lines_in trees c.args.tab))) same (c.in-Ok.ensures.body early rest h.changes) in
    let order = subst (λ (trees : Trees). IsInOrder (lines_in trees c.args.tab) columns changes n) same h in
    let told = c.put_over_line.ensures.told clean (at_rest_on old mid on rest) n order (ap (λ (x : Room). x.rows) is) (ap (λ (x : Room). x.last) is) body in
    subst (λ (trees : Trees). GoesSo (lines_in trees c.args.tab) columns changes c.put_over_line.new.changes n (OverRow columns c.args.all c.args.id c.args.cells.now) c.put_over_line.result) (sym same)
    (subst (λ all. GoesSo (lines_in mid.now.trees c.args.tab) columns changes c.put_over_line.new.changes n (OverRow columns all c.args.id c.args.cells.now) c.put_over_line.result) (ap (λ (x : Room). x.all) is) told)

pub returns-in-Err-clause-told : goal.returns-in-Err-clause-told
returns-in-Err-clause-told g c = λ clean rest h.
    let kept = lines_in (state g.S.Store c.args.conn.now).now.trees c.args.tab in
    let columns = c.args.shape.now.columns in
    stays_so kept columns c.args.changes.now c.args.changes.now c.args.count.now (itself c.args.changes.now) h (OverRow columns c.args.all c.args.id c.args.cells.now) c.in-Err.end
