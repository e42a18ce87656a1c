use Rattle.recalc.proofs.Emptying.{blank_more}
use Rattle.recalc.proofs.valued.make_blank.Goals as goal

pub loop-value-preserved : goal.loop-value-preserved
loop-value-preserved c = blank_more c.loop-value.values c.loop-value.value-index c.loop-value.invariant
