use Rattle.std.proofs.Common.{drop}
use Rattle.fx_types.specs.Types.{column_list, shape_size, columns_size}
use Rattle.fx_types.specs.TypeView.{shape, columns_view}
use Rattle.fx_semantics.proofs.Lawful.{AreInner}
use Rattle.app_loader.proofs.types.+look.Given as goal

abbrev pub decreases-look_at_type : goal.decreases-look_at_type
decreases-look_at_type l = shape_size (shape l.ty.now)

abbrev pub decreases-look_at_columns : goal.decreases-look_at_columns
decreases-look_at_columns l = columns_size (column_list l.columns.now)

-- where the columns that are left have lawful types, all have
abbrev pub invariant-look_at_columns-loop-ty : goal.invariant-look_at_columns-loop-ty
invariant-look_at_columns-loop-ty l = AreInner (column_list (columns_view (drop l.ty-index l.ty-items))) → AreInner (column_list l.columns)
