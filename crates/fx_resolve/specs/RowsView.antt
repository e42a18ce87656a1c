-- What named rows are seen as.
use Rattle.fx_types.specs.TypeView.{shape}
use Rattle.fx_types.specs.Types.{Shape}
use Rattle.fx_core.specs.declared.deeds.Target.{Target}
use Rattle.fx_resolve.specs.declared.targets.RowsNamed.{RowsNamed}

abbrev pub rows_view : RowsNamed → Target × Shape
rows_view r = (r.target, shape r.ty)
