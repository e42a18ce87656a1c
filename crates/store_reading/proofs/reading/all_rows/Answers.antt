use Rattle.std.proofs.Common.{◌∙◌, arith}
use Rattle.sqlite.specs.Held.{state}
use Rattle.sql_contents.specs.Contents.{lines_in}
use Rattle.store_model.specs.Ends.{call_failed}
use Rattle.store_reading.proofs.DecodeLemmas.{if_ok}
use Rattle.store_reading.proofs.OverlaidLemmas.{kept_read}
use Rattle.store_reading.proofs.StayLemmas.{stays_anyway}
use Rattle.store_reading.proofs.reading.all_rows.Goals as goal

pub returns-in-Ok-clause-stays : goal.returns-in-Ok-clause-stays
returns-in-Ok-clause-stays g c = stays_anyway (state g.S.Store c.args.conn.now) (state g.S.Store c.ask_lines.new.conn) (call_failed c.overlaid.result) c.in-Ok.ensures.stays

pub returns-in-Ok-clause-rows : goal.returns-in-Ok-clause-rows
returns-in-Ok-clause-rows g c = λ clean rest are.
    let lines = lines_in (state g.S.Store c.args.conn.now).now.trees in
    if_ok c.overlaid.result c.overlaid.ensures.rows (λ rows told. told (lines c.args.tab)
    (kept_read c.args.changes.now lines c.args.tab c.from.result c.deref.result.now (omega arith) (c.deref.ensures.value ∙ c.in-Ok.ensures.answer clean rest) are) are)
