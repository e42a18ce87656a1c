use Rattle.number_bags.specs.Entries.{spread_now}
use Rattle.number_bags.specs.declared.counts.Count.{Count}
use Rattle.number_bags.proofs.RisingLemmas.{spread_rises, with_option_rises}
use Rattle.number_bags.proofs.bags.NumberBag.totals.Goals as goal

pub returns-clause-rising : goal.returns-clause-rising
returns-clause-rising c =
    let es = c.args.self.now.counts.entries.entries in
    with_option_rises c.args.self.now.late (spread_now es) (spread_rises (λ (n : Count). n.is) es c.len-len.ensures.ordered)
