use Rattle.std.proofs.Common.{◌∙◌, None, Some, ap, false, sym}
use Rattle.sqlite.specs.Held.{state}
use Rattle.sql_contents.specs.Contents.{lines_in}
use Rattle.row_changes.specs.Overlay.{shown}
use Rattle.store_model.specs.Ends.{call_failed}
use Rattle.store_reading.proofs.DecodeLemmas.{if_ok}
use Rattle.store_reading.proofs.BodyLemmas.{made_body, same_body}
use Rattle.store_reading.proofs.StayLemmas.{stays_itself}
use Rattle.store_reading.proofs.bodies.body_now.Goals as goal

pub returns-in-Body-clause-stays : goal.returns-in-Body-clause-stays
returns-in-Body-clause-stays g c = stays_itself (state g.S.Store c.args.conn.now) (call_failed c.copied.result)

pub returns-in-Body-clause-body : goal.returns-in-Body-clause-body
returns-in-Body-clause-body g c = λ clean rest are.
    let kept = lines_in (state g.S.Store c.args.conn.now).now.trees c.args.tab in
    if_ok c.copied.result c.copied.ensures (λ o told. told ∙ sym (made_body c.args.changes.now kept c.args.id c.made.result (Some c.in-Body.body.now) are c.made.ensures (ap shown c.in-Body.is)))

pub returns-in-Gone-clause-body : goal.returns-in-Gone-clause-body
returns-in-Gone-clause-body g c = λ clean rest are.
    let kept = lines_in (state g.S.Store c.args.conn.now).now.trees c.args.tab in
    sym (made_body c.args.changes.now kept c.args.id c.made.result None are c.made.ensures (ap shown c.in-Gone.is))

pub returns-in-Same-clause-body : goal.returns-in-Same-clause-body
returns-in-Same-clause-body g c = λ clean rest are.
    let kept = lines_in (state g.S.Store c.args.conn.now).now.trees c.args.tab in
    if_ok c.kept_body.result (c.kept_body.ensures.body clean rest) (λ o told. told ∙ sym (same_body c.args.changes.now kept c.args.id c.made.result are c.made.ensures (ap shown c.in-Same.is)))

pub returns-in-Gone-clause-stays : goal.returns-in-Gone-clause-stays
returns-in-Gone-clause-stays g c = stays_itself (state g.S.Store c.args.conn.now) false
