use Rattle.std.proofs.Common.{◌≡◌, drop}
use Rattle.fx_types.specs.TypeView.{columns_view}
use Rattle.fx_types.specs.Types.{column_list}
use Rattle.fx_core.specs.ColumnLists.{joined_columns}
use Rattle.fx_typing.proofs.columns.join_columns.Given as goal

abbrev pub invariant-loop-name : goal.invariant-loop-name
invariant-loop-name l =
    joined_columns (column_list (columns_view (drop l.name-index l.name-items))) (column_list l.joined) ≡ joined_columns (column_list l.inner) (column_list l.fn.columns)
