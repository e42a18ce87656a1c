use Rattle.std.proofs.Common.{◌≡◌, ◌++◌, map}
use Rattle.fx_typing.specs.Local.{firsts}
use Rattle.fx_typing.specs.TypedView.{typed}
use Rattle.fx_node_typing.proofs.node_rule.cores_of.Given as goal

abbrev pub invariant-loop-part : goal.invariant-loop-part
invariant-loop-part l = l.cores ++ firsts (map typed l.part-iterator.rest.items) ≡ firsts (map typed l.fn.parts.items)
