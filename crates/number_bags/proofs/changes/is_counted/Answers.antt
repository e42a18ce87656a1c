use Rattle.std.proofs.Common.{◌≡◌, ◌<◌, ◌∙◌, nat_lt, rules, subst, sym}
use Rattle.std.specs.Bool.{Decides}
use Rattle.number_bags.specs.Entries.{spread_now}
use Rattle.number_bags.specs.Rising.{times}
use Rattle.number_bags.specs.declared.counts.Count.{Count}
use Rattle.number_bags.proofs.RisingLemmas.{times_by}
use Rattle.number_bags.proofs.changes.is_counted.Goals as goal

pub returns-clause-there : goal.returns-clause-there
returns-clause-there c =
    let es = c.args.counts.now.entries.entries in
    let e : times c.args.number (spread_now es) ≡ c.count.result = times_by (λ (n : Count). n.is) c.args.number es c.len-len.ensures.ordered ∙ sym c.count.ensures in
    let d : Decides (nat_lt 0 c.count.result) (0 < c.count.result) = search rules in
    subst (λ k. Decides (nat_lt 0 c.count.result) (0 < k)) (sym e) d
