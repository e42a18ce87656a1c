use Rattle.std.proofs.Common.{arith}
use Rattle.fx_value.proofs.WideningSteps.{taken_out}
use Rattle.fx_value.proofs.widening.take_value.Goals as goal

pub returns-then-is-clause-others : goal.returns-then-is-clause-others
returns-then-is-clause-others c =
    taken_out c.args.items.now.items c.loop-other.other-items c.loop-other.other-index c.other-item.result c.replace.new.dest c.args.items.now.len c.args.name.now
    c.loop-other.invariant.whole c.args.items.now.ok.0 (omega (arith, c.loop-other.auto.other-items, c.loop-other-test.true)) c.other-item.is (c.is.ensures.same.0 c.if-is.true)
