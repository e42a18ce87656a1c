use Rattle.std.proofs.Common.{◌∙◌, ◌<◌, ap, arith, length, map, refl, sym}
use Rattle.std.specs.Prelude.{codes, encode_utf8_all}
use Rattle.std.proofs.lemmas.Option.{slice_get_read}
use Rattle.serde_json.specs.Data.{Data, Members, member, no_members, number, put, unsigned}
use Rattle.serde_json.specs.View.{members_view}
use Rattle.fx_types.specs.ValueView.{view}
use Rattle.view_text.specs.JsonText.{value_data}
use Rattle.row_requests.proofs.Given.{slice_view, view_length}
use Rattle.row_requests.proofs.Pages.{values_more}
use Rattle.row_requests.proofs.page.row_json.Goals as goal

pub loop-place-preserved : goal.loop-place-preserved
loop-place-preserved c =
    let place = c.loop-place.place in
    let cells = c.as_slice-cells.result.now in
    let within : place < length cells = omega (arith, c.loop-place-test.true, c.requires, view_length cells, ap length c.as_slice-cells.ensures) in
    let before = members_view c.loop-place.members.entries in
    let value = value_data (view c.index-cells-place.result) in
    let name = encode_utf8_all c.index-columns-place.result.name in
    c.in_ok-put-2.ensures.ok
    ∙ ap (λ (d : Data). put c.as_str.result.now d before) c.in_ok-value.ensures
    ∙ ap (λ k. put k value before) c.as_str.ensures.bytes
    ∙ ap (λ (ms : Members). put name value ms) c.loop-place.invariant
    ∙ sym (values_more c.args.columns.now (map view cells) (member (codes "ID") (number (unsigned c.args.row.now.id)) no_members) place c.index-columns-place.result (view c.index-cells-place.result)
    (slice_get_read c.args.columns.now (length c.args.columns.now) place c.index-columns-place.result refl c.loop-place-test.true c.index-columns-place.is)
    (slice_view cells place c.index-cells-place.result (slice_get_read cells (length cells) place c.index-cells-place.result refl within c.index-cells-place.is)))
