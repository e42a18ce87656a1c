use Rattle.std.proofs.Common.{◌≡◌, ◌∙◌, ap}
use Rattle.std.specs.Iterator.Adapters.{rev_source}
use Rattle.number_bags.specs.Entries.{spread_now}
use Rattle.number_bags.specs.declared.counts.Count.{Count}
use Rattle.number_bags.proofs.LeastLemmas.{found_last, passed_last}
use Rattle.number_bags.proofs.RisingLemmas.{spread_rises}
use Rattle.number_bags.proofs.extremes.greatest.Goals as goal

pub returns-then-count-gt0 : goal.returns-then-count-gt0
returns-then-count-gt0 c =
    let e : rev_source c.into_iter-number-iterator.result ≡ c.args.counts.now.entries.entries = ap rev_source c.into_iter-number-iterator.ensures.into_iter_gives ∙ c.rev-number-items.ensures.source ∙ c.iter.ensures.rest in
    found_last (rev_source c.loop-number.number-iterator) (rev_source c.next.new.self) c.args.counts.now.entries.entries c.in-Some.number.now c.in-Some.count.now c.if-count-gt0.true c.in-Some.ensures.steps
    (c.loop-number.invariant ∙ ap spread_now e) (spread_rises (λ (n : Count). n.is) c.args.counts.now.entries.entries c.len-len.ensures.ordered)

pub loop-number-preserved : goal.loop-number-preserved
loop-number-preserved c =
    passed_last (rev_source c.loop-number.number-iterator) (rev_source c.next.new.self) (rev_source c.into_iter-number-iterator.result) c.in-Some.number.now c.in-Some.count.now c.if-count-gt0.false c.in-Some.ensures.steps c.loop-number.invariant
