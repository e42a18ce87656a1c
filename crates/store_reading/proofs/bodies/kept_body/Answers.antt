use Rattle.std.proofs.Common.{◌∙◌, arith, filter, sym}
use Rattle.sqlite.specs.Held.{state}
use Rattle.sql_contents.specs.Contents.{lines_in}
use Rattle.sql_meanings.specs.Lines.{is_within}
use Rattle.store_model.specs.Ends.{call_failed}
use Rattle.store_reading.proofs.DecodeLemmas.{if_ok}
use Rattle.store_reading.proofs.OverlaidLemmas.{first_line, first_read}
use Rattle.store_reading.proofs.StayLemmas.{stays_anyway}
use Rattle.store_reading.proofs.bodies.kept_body.Goals as goal

pub returns-in-Ok-clause-stays : goal.returns-in-Ok-clause-stays
returns-in-Ok-clause-stays g c = stays_anyway (state g.S.Store c.args.conn.now) (state g.S.Store c.ask_lines.new.conn) (call_failed c.first_body.result) c.in-Ok.ensures.stays

pub returns-in-Ok-clause-body : goal.returns-in-Ok-clause-body
returns-in-Ok-clause-body g c = λ clean rest.
    let lines = lines_in (state g.S.Store c.args.conn.now).now.trees in
    let kept = lines c.args.tab in
    if_ok c.first_body.result c.first_body.ensures (λ o told. told (filter (is_within c.args.id c.args.id) kept)
    (first_read c.args.id c.args.tab c.from.result lines c.deref.result.now (omega arith) (c.deref.ensures.value ∙ c.in-Ok.ensures.answer clean rest)) ∙ sym (first_line c.args.id kept))
