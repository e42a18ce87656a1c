use Rattle.std.proofs.Common.{◌≡◌, ◌↔◌, drop}
use Rattle.fx_types.specs.Values.{field_list, row_list, size_of, fields_size, rows_size}
use Rattle.fx_types.specs.ValueView.{view, fields_view}
use Rattle.fx_value.proofs.equality.+same.Given as goal

abbrev pub decreases-same : goal.decreases-same
decreases-same l = size_of (view l.a.now)

abbrev pub decreases-same_record : goal.decreases-same_record
decreases-same_record l = fields_size (field_list l.a.now)

abbrev pub decreases-same_table : goal.decreases-same_table
decreases-same_table l = rows_size (row_list l.a.now)

abbrev pub invariant-same_record-loop-i : goal.invariant-same_record-loop-i
invariant-same_record-loop-i l = (fields_view (drop l.i l.xs) ≡ fields_view (drop l.i l.ys)) ↔ (l.a ≡ l.b)

abbrev pub invariant-same_table-loop-i : goal.invariant-same_table-loop-i
invariant-same_table-loop-i l = (drop l.i l.xs ≡ drop l.i l.ys) ↔ (l.a ≡ l.b)
