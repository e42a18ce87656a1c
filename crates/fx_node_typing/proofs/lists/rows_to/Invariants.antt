use Rattle.std.proofs.Common.{◌≡◌, map}
use Rattle.fx_types.specs.TypeView.{shape}
use Rattle.fx_typing.specs.Builds.{rows_to}
use Rattle.fx_typing.specs.TypedView.{typed}
use Rattle.fx_node_typing.specs.Lists.{parts_behind}
use Rattle.fx_node_typing.proofs.lists.rows_to.Given as goal

abbrev pub invariant-loop-part : goal.invariant-loop-part
invariant-loop-part l =
    parts_behind (map typed l.rows.items) (rows_to (shape l.ty) (map typed l.part-iterator.rest.items))
    ≡ rows_to (shape l.ty) (map typed l.fn.parts.items)
