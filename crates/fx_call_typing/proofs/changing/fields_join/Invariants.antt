use Rattle.std.proofs.Common.{◌≡◌, drop}
use Rattle.fx_types.specs.Types.{column_list}
use Rattle.fx_types.specs.TypeView.{columns_view}
use Rattle.fx_typing.specs.Deeds.{fields_join}
use Rattle.fx_call_typing.proofs.changing.fields_join.Given as goal

abbrev pub invariant-loop-name : goal.invariant-loop-name
invariant-loop-name l =
    fields_join (column_list l.columns) (column_list (columns_view (drop l.name-index l.name-items)))
    ≡ fields_join (column_list l.columns) (column_list l.fields)
