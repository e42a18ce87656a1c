use Rattle.std.proofs.Common.{◌≡◌, map}
use Rattle.fx_typing.specs.Parts.{values}
use Rattle.fx_typing.specs.TypedView.{typed}
use Rattle.fx_resolve.specs.PartView.{judged_part}
use Rattle.fx_node_typing.specs.Lists.{parts_behind}
use Rattle.fx_call_typing.proofs.values.values.Given as goal

abbrev pub invariant-loop-one : goal.invariant-loop-one
invariant-loop-one l =
    parts_behind (map typed l.found.items) (values (map judged_part l.one-iterator.rest.items)) ≡ values (map judged_part l.fn.all.items)
