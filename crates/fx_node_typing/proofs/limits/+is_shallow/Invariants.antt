use Rattle.std.proofs.Common.{◌≡◌, drop, nat_le}
use Rattle.fx_types.specs.Types.{column_list, shape_size, columns_size}
use Rattle.fx_types.specs.TypeView.{shape, columns_view}
use Rattle.fx_typing.specs.Builds.{columns_depth}
use Rattle.fx_node_typing.proofs.limits.+is_shallow.Given as goal

abbrev pub invariant-are_shallow-loop-ty : goal.invariant-are_shallow-loop-ty
invariant-are_shallow-loop-ty l =
    nat_le (columns_depth (column_list (columns_view (drop l.ty-index l.ty-items)))) l.most
    ≡ nat_le (columns_depth (column_list l.columns)) l.most

abbrev pub decreases-is_shallow : goal.decreases-is_shallow
decreases-is_shallow l = shape_size (shape l.ty.now)

abbrev pub decreases-are_shallow : goal.decreases-are_shallow
decreases-are_shallow l = columns_size (column_list l.columns.now)
