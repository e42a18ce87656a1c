use Rattle.std.proofs.Common.{◌≡◌, drop, max}
use Rattle.fx_types.specs.Types.{column_list, shape_size, columns_size}
use Rattle.fx_types.specs.TypeView.{shape, columns_view}
use Rattle.fx_typing.specs.Details.{most_in}
use Rattle.fx_diagnostics.proofs.limits.+most_fields.Given as goal

abbrev pub invariant-most_in-loop-ty : goal.invariant-most_in-loop-ty
invariant-most_in-loop-ty l =
    max l.most (most_in (column_list (columns_view (drop l.ty-index l.ty-items)))) ≡ most_in (column_list l.columns)

abbrev pub decreases-most_fields : goal.decreases-most_fields
decreases-most_fields l = shape_size (shape l.ty.now)

abbrev pub decreases-most_in : goal.decreases-most_in
decreases-most_in l = columns_size (column_list l.columns.now)
