use Rattle.std.proofs.Common.{◌≡◌, drop}
use Rattle.fx_types.specs.TypeView.{columns_view}
use Rattle.fx_types.specs.Types.{column_list}
use Rattle.fx_typing.specs.Columns.{first_shared}
use Rattle.fx_typing.proofs.columns.first_shared.Given as goal

abbrev pub invariant-loop-name : goal.invariant-loop-name
invariant-loop-name l =
    first_shared (column_list (columns_view (drop l.name-index l.name-items))) (column_list l.columns) ≡ first_shared (column_list l.inner) (column_list l.columns)
