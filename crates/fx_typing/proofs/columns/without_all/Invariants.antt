use Rattle.std.proofs.Common.{◌≡◌, drop}
use Rattle.fx_types.specs.Types.{column_list}
use Rattle.fx_core.specs.ColumnLists.{without_all}
use Rattle.fx_typing.proofs.columns.without_all.Given as goal

abbrev pub invariant-loop-name : goal.invariant-loop-name
invariant-loop-name l = without_all (drop l.name-index l.names) (column_list l.left) ≡ without_all l.names (column_list l.fn.columns)
