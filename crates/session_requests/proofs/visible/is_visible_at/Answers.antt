use Rattle.std.proofs.Common.{◌≡◌, Some}
use Rattle.std.proofs.lemmas.Result.{IfOk-weaker}
use Rattle.recalc.specs.app_semantics.Chosen.{row_at_position}
use Rattle.recalc.specs.app_semantics.Present.{items_of}
use Rattle.recalc.specs.fx_semantics.Rows.{rows_in}
use Rattle.recalc.specs.Values.{value_of}
use Rattle.session_requests.proofs.ForItems.{row_read}
use Rattle.session_requests.proofs.Items.{is_one, row_fits}
use Rattle.session_requests.proofs.visible.is_visible_at.Goals as goal

pub is_visible_for_item-requires-clause-item : goal.is_visible_for_item-requires-clause-item
is_visible_for_item-requires-clause-item g c =
    row_fits c.args.app.now (value_of c.args.valued.now) c.args.item.gallery c.args.item.at c.in-Some.row.now c.requires.sound c.requires.fits
    (is_one c.args.app.now c.args.control c.args.item.gallery c.requires.stands.0 c.requires.sound c.requires.stands.1 c.requires.stands.2)
    (row_read c.args.app.now.names c.as_slice.result.now c.args.valued.now c.args.item.gallery c.args.item.at c.in-Some.row.now c.as_slice.ensures c.in-Some.ensures)

pub returns-clause-shows : goal.returns-clause-shows
returns-clause-shows g c =
    let there : row_at_position c.args.item.at (rows_in (items_of c.args.app.now.names (value_of c.args.valued.now) c.args.item.gallery)) ≡ Some c.in-Some.row.now =
    row_read c.args.app.now.names c.as_slice.result.now c.args.valued.now c.args.item.gallery c.args.item.at c.in-Some.row.now c.as_slice.ensures c.in-Some.ensures in
    IfOk-weaker c.is_visible_for_item.result _ _ (λ b h moment tables today heard.
    let seen = h moment tables today heard in record { row = c.in-Some.row.now; there = there; value = seen.0; is_value = seen.1; is = seen.2 })
    c.is_visible_for_item.ensures.shows
