use Rattle.std.proofs.Common.{◌≡◌, ◌++◌, ◌∷◌, drop, string_bytes, false, nat_lt}
use Rattle.fx_types.specs.Values.{field_list, row_list, size_of, fields_size, rows_size}
use Rattle.fx_types.specs.ValueView.{view, fields_view}
use Rattle.view_text.specs.PlainText.{fields_text, rows_text}
use Rattle.view_text.proofs.plain_form.+plain.Given as goal

abbrev pub decreases-write_value : goal.decreases-write_value
decreases-write_value l = size_of (view l.value.now)

abbrev pub decreases-write_record : goal.decreases-write_record
decreases-write_record l = fields_size (field_list l.fields.now)

abbrev pub decreases-write_table : goal.decreases-write_table
decreases-write_table l = rows_size (row_list l.rows.now)

abbrev pub invariant-write_record-loop-i : goal.invariant-write_record-loop-i
invariant-write_record-loop-i l =
    string_bytes l.out ++ fields_text (nat_lt 0 l.i) (field_list (fields_view (drop l.i l.items)))
    ≡ string_bytes l.fn.out ++ 123 ∷ fields_text false (field_list l.fields)

abbrev pub invariant-write_table-loop-i : goal.invariant-write_table-loop-i
invariant-write_table-loop-i l =
    string_bytes l.out ++ rows_text (nat_lt 0 l.i) (row_list (drop l.i l.items))
    ≡ string_bytes l.fn.out ++ 91 ∷ rows_text false (row_list l.rows)
