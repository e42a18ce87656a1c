use Rattle.std.proofs.Common.{arith}
use Rattle.std.proofs.lemmas.Int.{ints}
use Rattle.fx_eval.proofs.Averages.{sums_within}
use Rattle.fx_eval.proofs.demands.average.Goals as goal

pub quotient-requires-clause-low : goal.quotient-requires-clause-low
quotient-requires-clause-low c =
    let w = sums_within c.requires.0 c.args.totals.now _ _ _ _ c.requires.1 c.in_ok-totals.was c.in_ok-totals-2.was c.units-least.ensures.value c.units-greatest.ensures.value c.units-least.ensures.in_range c.units-greatest.ensures.in_range in
    let low = w.low in
    let high = w.high in
    omega (arith, ints)

pub quotient-requires-clause-high : goal.quotient-requires-clause-high
quotient-requires-clause-high c =
    let w = sums_within c.requires.0 c.args.totals.now _ _ _ _ c.requires.1 c.in_ok-totals.was c.in_ok-totals-2.was c.units-least.ensures.value c.units-greatest.ensures.value c.units-least.ensures.in_range c.units-greatest.ensures.in_range in
    let low = w.low in
    let high = w.high in
    omega (arith, ints)
