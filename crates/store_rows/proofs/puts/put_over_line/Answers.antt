use Rattle.std.proofs.Common.{◌∙◌, Some, ap, sym}
use Rattle.sqlite.specs.Held.{state}
use Rattle.sql_contents.specs.Contents.{lines_in}
use Rattle.row_changes.specs.Overlay.{bytes_in}
use Rattle.row_keeper.specs.declared.rows.Put.TheVariants.{NoRow}
use Rattle.store_reading.proofs.StayLemmas.{stays_itself}
use Rattle.store_rows.specs.Puts.{OverRow}
use Rattle.store_rows.proofs.PutLemmas.{answers_so, itself, missing_so}
use Rattle.store_rows.proofs.puts.put_over_line.Goals as goal

pub returns-in-None-clause-stays : goal.returns-in-None-clause-stays
returns-in-None-clause-stays g c = stays_itself (state g.S.Store c.args.conn.now) _

pub returns-in-None-clause-told : goal.returns-in-None-clause-told
returns-in-None-clause-told g c = λ clean rest n h rows last body.
    let kept = lines_in (state g.S.Store c.args.conn.now).now.trees c.args.tab in
    let columns = c.args.shape.now.columns in
    answers_so kept columns c.args.changes.now c.args.changes.now n (itself c.args.changes.now) h (OverRow columns c.args.room.all c.args.id c.args.cells.now) NoRow (λ e. (missing_so kept columns c.args.changes.now c.args.id (sym body ∙ ap bytes_in c.in-None.is), e))

pub returns-in-Some-clause-told : goal.returns-in-Some-clause-told
returns-in-Some-clause-told g c = λ clean rest n h rows last body.
    c.put_over_body.ensures.told clean rest n h rows last (sym body ∙ ap bytes_in c.in-Some.is ∙ ap Some (sym c.deref.ensures.value))
