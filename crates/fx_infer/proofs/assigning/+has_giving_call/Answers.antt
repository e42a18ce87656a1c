use Rattle.std.proofs.Common.{◌≡◌, ◌<◌, ◌≤◌, false, sym, arith, rules}
use Rattle.fx_core.specs.Tree.{tree_size, forest_size}
use Rattle.fx_typing.specs.Parts.{part_count}
use Rattle.fx_resolve.specs.PlanView.{tree_head}
use Rattle.fx_infer.specs.Assigning.{is_giving_call}
use Rattle.fx_infer.specs.Below.{forest_of}
use Rattle.fx_infer.proofs.NothingGiven.{has_none}
use Rattle.fx_infer.proofs.Places.{part_smaller, size_is}
use Rattle.fx_infer.proofs.assigning.+has_giving_call.Goals as goal

pub has_giving_call-requires : goal.has_giving_call-requires
has_giving_call-requires t c =
    let ts = forest_of c.args.whole.now in
    let a : tree_size c.in-Some.part.now < forest_size ts = part_smaller ts _ _ _ c.in-Some.ensures in
    (omega (arith, a, size_is c.args.whole.now), tt)

pub returns : goal.returns
returns t c =
    let own : is_giving_call c.args.names.now (tree_head c.args.whole.now) ≡ false = search rules in
    let enough : part_count (forest_of c.args.whole.now) ≤ c.loop-place.place = search rules in
    sym (has_none c.args.names.now c.args.whole.now c.loop-place.place enough own c.loop-place.invariant)
