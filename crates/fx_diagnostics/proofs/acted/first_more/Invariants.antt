use Rattle.std.proofs.Common.{◌≡◌, drop}
use Rattle.fx_types.specs.Types.{column_list}
use Rattle.fx_types.specs.TypeView.{columns_view}
use Rattle.fx_typing.specs.Details.{first_more}
use Rattle.fx_diagnostics.proofs.acted.first_more.Given as goal

abbrev pub invariant-loop-name : goal.invariant-loop-name
invariant-loop-name l =
    first_more (column_list l.columns) (column_list (columns_view (drop l.name-index l.name-items))) ≡ first_more (column_list l.columns) (column_list l.fields)
