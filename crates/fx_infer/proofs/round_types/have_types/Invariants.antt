use Rattle.std.proofs.Common.{◌≡◌, length, map}
use Rattle.fx_types.specs.TypeView.{shape}
use Rattle.fx_infer.specs.SameTypes.{same_shapes}
use Rattle.fx_infer.proofs.round_types.have_types.Given as goal

-- what is left is the same where the whole is
abbrev pub invariant-loop-things : goal.invariant-loop-things
invariant-loop-things g l =
    same_shapes (map shape l.types) (map g.T.TypedName.type_of l.things)
    ≡ same_shapes (map shape l.fn.types) (map g.T.TypedName.type_of l.fn.things)

abbrev pub decreases-loop-things : goal.decreases-loop-things
decreases-loop-things g l = length l.things
