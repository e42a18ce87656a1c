use Rattle.std.proofs.Common.{◌≡◌, drop}
use Rattle.fx_types.specs.Types.{column_list, shape_size, columns_size}
use Rattle.fx_types.specs.TypeView.{shape, columns_view}
use Rattle.fx_typing.specs.Builds.{are_narrow}
use Rattle.fx_node_typing.proofs.limits.+is_narrow.Given as goal

abbrev pub invariant-are_narrow-loop-ty : goal.invariant-are_narrow-loop-ty
invariant-are_narrow-loop-ty l =
    are_narrow (column_list (columns_view (drop l.ty-index l.ty-items))) ≡ are_narrow (column_list l.columns)

abbrev pub decreases-is_narrow : goal.decreases-is_narrow
decreases-is_narrow l = shape_size (shape l.ty.now)

abbrev pub decreases-are_narrow : goal.decreases-are_narrow
decreases-are_narrow l = columns_size (column_list l.columns.now)
