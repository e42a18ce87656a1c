use Rattle.std.proofs.Common.{map}
use Rattle.fx_types.specs.Types.{column_list}
use Rattle.fx_typing.specs.Deeds.{rows_named_by, row_typed}
use Rattle.fx_typing.specs.TypedView.{typed}
use Rattle.fx_node_typing.proofs.Kept.{Keeps}
use Rattle.fx_call_typing.proofs.changing.identify_rows.Given as goal

abbrev pub invariant-loop-one : goal.invariant-loop-one
invariant-loop-one l =
    Keeps (row_typed l.rows.target (column_list l.rows.columns)) (λ xs. map typed xs.items) l.found (map typed l.one-iterator.rest.items)
    (rows_named_by l.rows.target (column_list l.rows.columns) (map typed l.fn.named.items))
