use Rattle.std.proofs.Common.{◌≡◌, ◌++◌, ◌+◌, ◌*◌, take, drop, true}
use Rattle.fx_types.specs.Types.{column_list, shape_size, columns_size}
use Rattle.fx_types.specs.TypeView.{shape, columns_view}
use Rattle.fx_types.specs.Values.{field_list, row_list}
use Rattle.fx_types.specs.ValueView.{fields_view}
use Rattle.fx_value.specs.Coercion.{widened_fields, rows_mapped}
use Rattle.fx_value.specs.Fits.{fields_fit, rows_fit}
use Rattle.fx_value.proofs.WideningSteps.{Stand}
use Rattle.fx_value.proofs.widening.+widen.Given as goal

abbrev pub decreases-widen : goal.decreases-widen
decreases-widen l = 3 * shape_size (shape l.to.now)

abbrev pub decreases-widen_record : goal.decreases-widen_record
decreases-widen_record l = 3 * columns_size (column_list l.columns.now)

abbrev pub decreases-widen_table : goal.decreases-widen_table
decreases-widen_table l = 3 * columns_size (column_list l.columns.now) + 1

abbrev pub invariant-widen_record-loop-name : goal.invariant-widen_record-loop-name
invariant-widen_record-loop-name l = record {
  value : field_list (fields_view l.wide.items) ≡ widened_fields (field_list l.fn.fields) (column_list (columns_view (take l.name-index l.types)));
  fits : fields_fit (field_list (fields_view l.wide.items)) (column_list (columns_view (take l.name-index l.types))) ≡ true;
  stand : Stand (field_list l.fn.fields) (field_list (fields_view l.items.items)) (drop l.name-index l.types);
}

abbrev pub invariant-widen_table-loop-row : goal.invariant-widen_table-loop-row
invariant-widen_table-loop-row l = record {
  all : l.yielded ++ l.row-iterator.rest.items ≡ l.fn.rows;
  value : row_list l.wide.items ≡ rows_mapped (λ fs. widened_fields fs (column_list l.columns)) (row_list l.yielded);
  fits : rows_fit (row_list l.wide.items) (column_list l.columns) ≡ true;
}
