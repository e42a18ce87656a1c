use Rattle.std.proofs.Common.{◌≡◌, drop}
use Rattle.fx_types.specs.Types.{column_list, shape_size, columns_size}
use Rattle.fx_types.specs.TypeView.{shape, columns_view}
use Rattle.fx_typing.specs.Ways.{same_columns}
use Rattle.fx_typing.proofs.ways.+same_shape.Given as goal

abbrev pub decreases-same_shape : goal.decreases-same_shape
decreases-same_shape l = shape_size (shape l.a.now)

abbrev pub decreases-same_columns : goal.decreases-same_columns
decreases-same_columns l = columns_size (column_list l.a.now)

abbrev pub invariant-same_columns-loop-i : goal.invariant-same_columns-loop-i
invariant-same_columns-loop-i l =
    same_columns (column_list (columns_view (drop l.i l.xs))) (column_list (columns_view (drop l.i l.ys)))
    ≡ same_columns (column_list l.a) (column_list l.b)
