use Rattle.std.specs.Ordering.{int_eq}
use Rattle.std.proofs.Common.{None, ap, cond, sym, ◌∙◌}
use Rattle.number_bags.specs.Entries.{count_at, while_counted}
use Rattle.number_bags.proofs.EndLemmas.{at_none, at_one}
use Rattle.number_bags.proofs.CountLemmas.{is_number_is, count_stays, one_number, void_out}
use Rattle.number_bags.proofs.counts.drop_count.Goals as goal

pub returns-then-is_void : goal.returns-then-is_void
returns-then-is_void c q =
    let es = c.args.entries.now.entries in
    let key = c.args.number.now in
    at_one (count_at es) (count_at c.remove.new.self.entries) (int_eq key) key (one_number key) while_counted None (void_out (count_at es key) (sym c.if-is_void.ensures)) q
    (c.remove.ensures.updates.0 q ∙ ap (λ b. cond b None (count_at es q)) (is_number_is key q))

pub returns-else-is_void : goal.returns-else-is_void
returns-else-is_void c q =
    at_none (count_at c.args.entries.now.entries) (int_eq c.args.number.now) c.args.number.now (one_number c.args.number.now) while_counted (count_stays (count_at c.args.entries.now.entries c.args.number.now) (sym c.if-is_void.ensures)) q
