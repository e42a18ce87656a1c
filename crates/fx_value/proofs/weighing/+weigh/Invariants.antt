use Rattle.std.proofs.Common.{◌≡◌, ◌+◌, ◌-◌, ◌^◌, ◌<◌, min, drop}
use Rattle.fx_types.specs.ValueView.{view, fields_view}
use Rattle.fx_value.specs.Weight.{fields_weight, rows_weight}
use Rattle.fx_types.specs.Values.{field_list, row_list, size_of, fields_size, rows_size}
use Rattle.fx_value.proofs.weighing.+weigh.Given as goal

abbrev pub invariant-weigh_fields-loop-name : goal.invariant-weigh_fields-loop-name
invariant-weigh_fields-loop-name l =
    (l.sum < 2 ^ 64)
    × (min (l.sum + fields_weight (field_list (fields_view (drop l.name-index l.name-items)))) (2 ^ 64 - 1)
    ≡ min (16 + fields_weight (field_list l.fields)) (2 ^ 64 - 1))

abbrev pub invariant-weigh_rows-loop-row : goal.invariant-weigh_rows-loop-row
invariant-weigh_rows-loop-row l =
    (l.sum < 2 ^ 64)
    × (min (l.sum + rows_weight (row_list (drop l.row-index l.row-items))) (2 ^ 64 - 1)
    ≡ min (16 + rows_weight (row_list l.rows)) (2 ^ 64 - 1))

abbrev pub decreases-weigh : goal.decreases-weigh
decreases-weigh l = size_of (view l.v.now)

abbrev pub decreases-weigh_fields : goal.decreases-weigh_fields
decreases-weigh_fields l = fields_size (field_list l.fields.now)

abbrev pub decreases-weigh_rows : goal.decreases-weigh_rows
decreases-weigh_rows l = rows_size (row_list l.rows.now)
