use Rattle.std.proofs.Common.{◌≡◌, ◌++◌, drop, map}
use Rattle.fx_types.specs.Types.{column_list}
use Rattle.fx_types.specs.TypeView.{columns_view}
use Rattle.fx_typing.specs.Breaks.{names_of_columns}
use Rattle.fx_call_typing.proofs.taken.column_names.Given as goal

abbrev pub invariant-loop-name : goal.invariant-loop-name
invariant-loop-name l =
    map (λ w. w.now) l.names.items ++ names_of_columns (column_list (columns_view (drop l.name-index l.name-items)))
    ≡ names_of_columns (column_list l.columns)
