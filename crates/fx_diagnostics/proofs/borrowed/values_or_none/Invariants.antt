use Rattle.std.proofs.Common.{◌≡◌, drop, map}
use Rattle.fx_typing.specs.Parts.{values}
use Rattle.fx_typing.specs.TypedView.{typed}
use Rattle.fx_resolve.specs.PartView.{judged_part}
use Rattle.fx_node_typing.specs.Lists.{parts_behind}
use Rattle.fx_diagnostics.proofs.borrowed.values_or_none.Given as goal

abbrev pub invariant-loop-one : goal.invariant-loop-one
invariant-loop-one l = parts_behind (map (λ v. typed v.now) l.found.items) (values (map judged_part (drop l.one-index l.all))) ≡ values (map judged_part l.all)
