use Rattle.number_bags.specs.declared.counts.Count.{Count}
use Rattle.number_bags.proofs.RisingLemmas.{listed}
use Rattle.number_bags.proofs.changes.room_for.Goals as goal

pub returns-clause-now : goal.returns-clause-now
returns-clause-now c =
    listed (λ (n : Count). n.is) (λ (n : Count). n.is) c.args.counts.now.entries.entries c.make_room-made.new.self.entries.entries c.len-before.ensures.ordered c.len-after.ensures.ordered c.make_room-made.ensures.now

pub returns-clause-then : goal.returns-clause-then
returns-clause-then c =
    listed (λ (n : Count). n.was) (λ (n : Count). n.was) c.args.counts.now.entries.entries c.make_room-made.new.self.entries.entries c.len-before.ensures.ordered c.len-after.ensures.ordered c.make_room-made.ensures.then
