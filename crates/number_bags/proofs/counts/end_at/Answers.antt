use Rattle.std.specs.Ordering.{int_eq}
use Rattle.std.proofs.Common.{ap, cond, ◌∙◌}
use Rattle.std.specs.Option.{option_map}
use Rattle.number_bags.specs.Entries.{at_end, count_at, while_counted}
use Rattle.number_bags.proofs.EndLemmas.{at_both}
use Rattle.number_bags.proofs.CountLemmas.{two_steps}
use Rattle.number_bags.proofs.counts.end_at.Goals as goal

pub returns : goal.returns
returns c q =
    at_both (int_eq c.args.number.now q) (option_map (at_end c.args.with_changes)) while_counted (count_at c.args.entries.now.entries q) (count_at c.end_count.new.entries.entries q) (count_at c.drop_count.new.entries.entries q) (c.end_count.ensures q) (c.drop_count.ensures q)
    ∙ ap (λ o. cond (int_eq c.args.number.now q) o (count_at c.args.entries.now.entries q)) (two_steps c.args.with_changes (count_at c.args.entries.now.entries q))
