use Rattle.std.proofs.Common.{◌≡◌, arith, ◌∙◌, ap, take, refl}
use Rattle.std.proofs.lemmas.List.{take_more, map-append}
use Rattle.std.proofs.lemmas.Grind.{common_steps}
use Rattle.serde_json.specs.View.{items_of}
use Rattle.fx_types.proofs.Sizes.{field_is_smaller, row_is_smaller}
use Rattle.view_text.proofs.JsonLemmas.{IsMore, one_more, rows_are}
use Rattle.view_text.proofs.json.+json.Goals as goal

pub fields_json-value_json-requires : goal.fields_json-value_json-requires
fields_json-value_json-requires t c = grind (arith, field_is_smaller)

pub rows_json-fields_json-requires : goal.rows_json-fields_json-requires
rows_json-fields_json-requires t c = grind (arith, row_is_smaller)

pub fields_json-loop-name-preserved : goal.fields_json-loop-name-preserved
fields_json-loop-name-preserved t c =
    let more : IsMore c.as_slice-items.result.now c.loop-name.name-index c.loop-name-item.result =
    one_more _ _ _ c.loop-name-test.true c.loop-name-item.is (rw c.as_slice-items.ensures.fields c.as_slice-items.ensures.rising) c.loop-name.invariant.0 c.as_str.ensures.characters in
    (more.texts, rw (c.in_ok-put.ensures.ok, c.as_str.ensures.bytes, c.in_ok-member.ensures, c.loop-name.invariant.1) more.members)

pub rows_json-loop-row-preserved : goal.rows_json-loop-row-preserved
rows_json-loop-row-preserved t c =
    rw (take_more c.as_slice-items.result.now c.loop-row.row-index c.row-item.result c.loop-row-test.true, c.in_ok-push.ensures.ok, map-append, map-append, c.loop-row.invariant, c.from.ensures, c.in_ok-members.ensures, ← c.row-item.is) refl

pub rows_json-returns : goal.rows_json-returns
rows_json-returns t c =
    let all : take c.loop-row.row-index c.as_slice-items.result.now ≡ c.args.rows.now = grind (arith, common_steps) in
    ap items_of c.loop-row.invariant ∙ rw all (rows_are c.args.rows.now)
