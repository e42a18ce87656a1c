use Rattle.std.proofs.Common.{◌≡◌, drop}
use Rattle.fx_types.specs.Values.{field_list, row_list, size_of, fields_size, rows_size}
use Rattle.fx_value.specs.Fits.{fields_fit, rows_fit}
use Rattle.fx_types.specs.Types.{column_list}
use Rattle.fx_types.specs.TypeView.{columns_view}
use Rattle.fx_types.specs.ValueView.{view, fields_view}
use Rattle.fx_value.proofs.fitting.+fits.Given as goal

abbrev pub decreases-fits : goal.decreases-fits
decreases-fits l = size_of (view l.v.now)

abbrev pub decreases-record_fits : goal.decreases-record_fits
decreases-record_fits l = fields_size (field_list l.fields.now)

abbrev pub decreases-table_fits : goal.decreases-table_fits
decreases-table_fits l = rows_size (row_list l.rows.now)

abbrev pub invariant-record_fits-loop-i : goal.invariant-record_fits-loop-i
invariant-record_fits-loop-i l =
    fields_fit (field_list (fields_view (drop l.i l.items))) (column_list (columns_view (drop l.i l.types)))
    ≡ fields_fit (field_list l.fields) (column_list l.columns)

abbrev pub invariant-table_fits-loop-row : goal.invariant-table_fits-loop-row
invariant-table_fits-loop-row l =
    rows_fit (row_list (drop l.row-index l.row-items)) (column_list l.columns)
    ≡ rows_fit (row_list l.rows) (column_list l.columns)
