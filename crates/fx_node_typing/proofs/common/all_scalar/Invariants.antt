use Rattle.std.proofs.Common.{◌≡◌, drop, map}
use Rattle.fx_typing.specs.Local.{all_scalar}
use Rattle.fx_typing.specs.TypedView.{typed}
use Rattle.fx_node_typing.proofs.common.all_scalar.Given as goal

abbrev pub invariant-loop-part : goal.invariant-loop-part
invariant-loop-part l = all_scalar (map (λ b. typed b.now) (drop l.part-index l.parts)) ≡ all_scalar (map (λ b. typed b.now) l.parts)
