use Rattle.std.proofs.Common.{◌≡◌, map}
use Rattle.fx_types.specs.TypeView.{shape}
use Rattle.fx_typing.specs.Deeds.{rows_given}
use Rattle.fx_typing.specs.TypedView.{typed}
use Rattle.fx_node_typing.specs.Lists.{parts_behind}
use Rattle.fx_call_typing.proofs.gathering.rows_for.Given as goal

abbrev pub invariant-loop-value : goal.invariant-loop-value
invariant-loop-value l =
    parts_behind (map typed l.rows.items) (rows_given (shape l.ty) (map typed l.value-iterator.rest.items))
    ≡ rows_given (shape l.ty) (map typed l.fn.collected.items)
