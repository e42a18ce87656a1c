use Rattle.std.proofs.Common.{◌≡◌, length, arith}
use Rattle.std.proofs.lemmas.Grind.{common_steps}
use Rattle.fx_infer.proofs.Same.{done_same}
use Rattle.fx_infer.proofs.typed_names.retype_all.Goals as goal

pub returns-clause-same : goal.returns-clause-same
returns-clause-same g c =
    let e : length c.loop-thing.thing-iterator.a.rest.items ≡ 0 = grind (arith, common_steps) in
    done_same g.T.TypedName.IsSame c.args.things c.loop-thing.all c.loop-thing.thing-iterator.a.rest.items e c.loop-thing.invariant.same
