use Rattle.number_bags.specs.declared.counts.Count.{Count}
use Rattle.number_bags.proofs.RisingLemmas.{listed, listed_without}
use Rattle.number_bags.proofs.changes.lower.Goals as goal

pub returns-clause-now : goal.returns-clause-now
returns-clause-now c =
    listed_without (λ (n : Count). n.is) c.args.number c.args.counts.now.entries.entries c.lower.new.self.entries.entries c.len-before.ensures.ordered c.len-after.ensures.ordered c.requires.there c.lower.ensures.now

pub returns-clause-then : goal.returns-clause-then
returns-clause-then c =
    listed (λ (n : Count). n.was) (λ (n : Count). n.was) c.args.counts.now.entries.entries c.lower.new.self.entries.entries c.len-before.ensures.ordered c.len-after.ensures.ordered c.lower.ensures.then
