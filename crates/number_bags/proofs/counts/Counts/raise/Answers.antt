use Rattle.std.specs.Ordering.{int_eq}
use Rattle.std.proofs.Common.{ap, cond, ◌+◌, ◌∙◌}
use Rattle.number_bags.specs.Entries.{now_at}
use Rattle.number_bags.proofs.CountLemmas.{at_number, raised}
use Rattle.number_bags.proofs.counts.Counts.raise.Goals as goal

pub returns-clause-now : goal.returns-clause-now
returns-clause-now c q =
    raised (int_eq c.args.number.now q) (now_at c.args.self.now.entries.entries c.args.number.now) (now_at c.args.self.now.entries.entries q) (now_at c.write.new.self.entries.entries q)
    (c.write.ensures.now q ∙ ap (λ n. cond (int_eq c.args.number.now q) (n + 1) (now_at c.args.self.now.entries.entries q)) c.count-is.ensures)
    (at_number c.args.self.now.entries.entries c.args.number.now q)
