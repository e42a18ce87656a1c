use Rattle.std.proofs.Common.{◌≡◌, drop, map}
use Rattle.fx_typing.specs.Local.{some_text}
use Rattle.fx_typing.specs.TypedView.{typed}
use Rattle.fx_node_typing.proofs.common.some_text.Given as goal

abbrev pub invariant-loop-part : goal.invariant-loop-part
invariant-loop-part l = some_text (map (λ b. typed b.now) (drop l.part-index l.parts)) ≡ some_text (map (λ b. typed b.now) l.parts)
