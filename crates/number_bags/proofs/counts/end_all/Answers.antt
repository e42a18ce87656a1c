use Rattle.std.specs.Ordering.{int_eq}
use Rattle.std.proofs.Common.{ap, cond, sym, take, ◌∙◌}
use Rattle.number_bags.specs.Entries.{ended, is_one_of, count_at}
use Rattle.number_bags.proofs.EndLemmas.{any_more, at_next}
use Rattle.number_bags.proofs.CountLemmas.{end_twice}
use Rattle.number_bags.proofs.counts.end_all.Goals as goal

pub loop-number-preserved : goal.loop-number-preserved
loop-number-preserved c q =
    at_next (is_one_of (take c.loop-number.number-index c.args.touched.now) q) (int_eq c.number-item.result q) (ended c.args.with_changes) (end_twice c.args.with_changes) (count_at c.args.entries.now.entries q) (count_at c.loop-number.entries.entries q) (count_at c.end_at.new.entries.entries q)
    (c.loop-number.invariant q) (c.end_at.ensures q)
    ∙ ap (λ b. cond b (ended c.args.with_changes (count_at c.args.entries.now.entries q)) (count_at c.args.entries.now.entries q))
    (sym (any_more (λ x. int_eq x q) c.args.touched.now c.loop-number.number-index c.number-item.result c.number-item.result c.loop-number-test.true c.number-item.is))
