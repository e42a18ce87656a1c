use Rattle.number_bags.specs.declared.counts.Count.{Count}
use Rattle.number_bags.proofs.RisingLemmas.{listed, listed_with}
use Rattle.number_bags.proofs.changes.put.Goals as goal

pub returns-clause-ok : goal.returns-clause-ok
returns-clause-ok c =
    listed_with (λ (n : Count). n.is) c.args.number c.args.counts.now.entries.entries c.raise.new.self.entries.entries c.len-before.ensures.ordered c.len-after.ensures.ordered c.raise.ensures.now

pub returns-clause-then : goal.returns-clause-then
returns-clause-then c =
    listed (λ (n : Count). n.was) (λ (n : Count). n.was) c.args.counts.now.entries.entries c.raise.new.self.entries.entries c.len-before.ensures.ordered c.len-after.ensures.ordered c.raise.ensures.then
