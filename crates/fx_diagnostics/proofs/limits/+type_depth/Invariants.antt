use Rattle.std.proofs.Common.{◌≡◌, drop, max}
use Rattle.fx_types.specs.Types.{column_list, shape_size, columns_size}
use Rattle.fx_types.specs.TypeView.{shape, columns_view}
use Rattle.fx_typing.specs.Builds.{columns_depth}
use Rattle.fx_diagnostics.proofs.limits.+type_depth.Given as goal

abbrev pub invariant-columns_depth-loop-ty : goal.invariant-columns_depth-loop-ty
invariant-columns_depth-loop-ty l =
    max l.depth (columns_depth (column_list (columns_view (drop l.ty-index l.ty-items)))) ≡ columns_depth (column_list l.columns)

abbrev pub decreases-type_depth : goal.decreases-type_depth
decreases-type_depth l = shape_size (shape l.ty.now)

abbrev pub decreases-columns_depth : goal.decreases-columns_depth
decreases-columns_depth l = columns_size (column_list l.columns.now)
