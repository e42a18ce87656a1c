use Rattle.std.proofs.Common.{◌≡◌, ◌∙◌, ap, sym}
use Rattle.number_bags.specs.Entries.{spread_now}
use Rattle.number_bags.specs.declared.counts.Count.{Count}
use Rattle.number_bags.proofs.LeastLemmas.{found_first, passed_first}
use Rattle.number_bags.proofs.RisingLemmas.{spread_rises}
use Rattle.number_bags.proofs.extremes.least.Goals as goal

pub returns : goal.returns
returns c =
    let e : c.into_iter-number-iterator.result ≡ c.args.counts.now.entries.entries = c.into_iter-number-iterator.ensures.into_iter_gives.0 in
    ap spread_now (sym e) ∙ sym c.loop-number.invariant ∙ ap spread_now c.in-None.ensures.steps.0

pub returns-then-count-gt0 : goal.returns-then-count-gt0
returns-then-count-gt0 c =
    let e : c.into_iter-number-iterator.result ≡ c.args.counts.now.entries.entries = c.into_iter-number-iterator.ensures.into_iter_gives.0 in
    found_first c.loop-number.number-iterator c.next.new.self c.args.counts.now.entries.entries c.in-Some.number.now c.in-Some.count.now c.if-count-gt0.true c.in-Some.ensures.steps
    (c.loop-number.invariant ∙ ap spread_now e) (spread_rises (λ (n : Count). n.is) c.args.counts.now.entries.entries c.len-len.ensures.ordered)

pub loop-number-preserved : goal.loop-number-preserved
loop-number-preserved c =
    passed_first c.loop-number.number-iterator c.next.new.self c.into_iter-number-iterator.result c.in-Some.number.now c.in-Some.count.now c.if-count-gt0.false c.in-Some.ensures.steps c.loop-number.invariant
