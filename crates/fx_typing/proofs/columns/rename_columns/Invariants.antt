use Rattle.std.proofs.Common.{◌≡◌, length, map}
use Rattle.fx_types.specs.Types.{column_list}
use Rattle.fx_typing.specs.Columns.{columns_renamed}
use Rattle.fx_typing.specs.TypedView.{typed}
use Rattle.fx_typing.proofs.columns.rename_columns.Given as goal

abbrev pub invariant-loop-more : goal.invariant-loop-more
invariant-loop-more l = columns_renamed (map typed l.more) (column_list l.columns) ≡ columns_renamed (map typed l.fn.parts) (column_list l.fn.columns)

abbrev pub decreases-loop-more : goal.decreases-loop-more
decreases-loop-more l = length l.more
