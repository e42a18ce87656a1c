use Rattle.std.proofs.Common.{◌≡◌, map, take}
use Rattle.serde_json.specs.View.{members_view}
use Rattle.serde_json.specs.View.{view as json_view}
use Rattle.fx_types.specs.Values.{field_list, row_list, size_of, fields_size, rows_size}
use Rattle.fx_types.specs.ValueView.{view, fields_view}
use Rattle.view_text.specs.JsonText.{fields_data}
use Rattle.view_text.proofs.JsonLemmas.{AreTexts, row_data}
use Rattle.view_text.proofs.json.+json.Given as goal

abbrev pub decreases-fields_json : goal.decreases-fields_json
decreases-fields_json l = fields_size (field_list l.fields.now)

abbrev pub decreases-rows_json : goal.decreases-rows_json
decreases-rows_json l = rows_size (row_list l.rows.now)

abbrev pub decreases-value_json : goal.decreases-value_json
decreases-value_json l = size_of (view l.value.now)

abbrev pub invariant-fields_json-loop-name : goal.invariant-fields_json-loop-name
invariant-fields_json-loop-name l =
    AreTexts (take l.name-index l.items)
    × (members_view l.members.entries ≡ fields_data (field_list (fields_view (take l.name-index l.items))))

abbrev pub invariant-rows_json-loop-row : goal.invariant-rows_json-loop-row
invariant-rows_json-loop-row l = map json_view l.objects.items ≡ map row_data (take l.row-index l.items)
