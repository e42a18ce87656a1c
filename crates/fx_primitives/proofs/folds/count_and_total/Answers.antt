use Rattle.std.proofs.Common.{arith, refl}
use Rattle.std.proofs.lemmas.Int.{ints}
use Rattle.fx_primitives.proofs.FoldLemmas.{present_more, counted_step}
use Rattle.fx_primitives.proofs.folds.count_and_total.Goals as goal

pub loop-number-preserved : goal.loop-number-preserved
loop-number-preserved c =
    let more = present_more c.args.numbers.now c.loop-number.number-index c.number-item.result (omega arith) c.number-item.is in
    let part = c.count_and_units-more.ensures.value in
    let low = part.low in
    let high = part.high in
    let below = c.loop-number.invariant.1.low in
    let above = c.loop-number.invariant.1.high in
    (omega arith, counted_step _ _ c.number-item.result c.loop-number.count c.count_and_units-more.result.0 _ _ c.count_and_units-more.result.1 _ more refl (omega (arith, ints)) c.loop-number.invariant.1 part)
