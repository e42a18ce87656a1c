use Rattle.std.proofs.Common.{ℤ, ◌≡◌, cond, subst, true}
use Rattle.number_bags.specs.Entries.{ended, is_one_of, count_at}
use Rattle.number_bags.proofs.CountLemmas.{done}
use Rattle.number_bags.proofs.counts.Counts.settle.Goals as goal

pub returns-clause-now : goal.returns-clause-now
returns-clause-now c q =
    (done c.args.self.now.touched.items c.args.self.now.entries.entries c.end_all.new.entries.entries c.args.self.now.kept
    (subst (λ t. (p : ℤ) → count_at c.end_all.new.entries.entries p ≡ cond (is_one_of t p) (ended true (count_at c.args.self.now.entries.entries p)) (count_at c.args.self.now.entries.entries p)) c.deref.ensures.value c.end_all.ensures) q).0

pub returns-clause-then : goal.returns-clause-then
returns-clause-then c q =
    (done c.args.self.now.touched.items c.args.self.now.entries.entries c.end_all.new.entries.entries c.args.self.now.kept
    (subst (λ t. (p : ℤ) → count_at c.end_all.new.entries.entries p ≡ cond (is_one_of t p) (ended true (count_at c.args.self.now.entries.entries p)) (count_at c.args.self.now.entries.entries p)) c.deref.ensures.value c.end_all.ensures) q).1
