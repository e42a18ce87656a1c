use Rattle.std.proofs.Common.{◌≡◌, drop, map, option_map}
use Rattle.fx_types.specs.TypeView.{shape}
use Rattle.fx_typing.specs.Local.{join_all}
use Rattle.fx_typing.specs.TypedView.{typed}
use Rattle.fx_node_typing.proofs.common.join_all.Given as goal

abbrev pub invariant-loop-part : goal.invariant-loop-part
invariant-loop-part l =
    join_all (option_map shape l.joined) (map (λ b. typed b.now) (drop l.part-index l.parts))
    ≡ join_all (option_map shape l.fn.start) (map (λ b. typed b.now) l.parts)
