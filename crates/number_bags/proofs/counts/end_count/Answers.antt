use Rattle.std.specs.Ordering.{int_eq}
use Rattle.std.proofs.Common.{Some, ap, cond, sym, ◌∙◌}
use Rattle.std.specs.Option.{is_some, option_map}
use Rattle.number_bags.specs.Entries.{at_end, count_at}
use Rattle.number_bags.proofs.EndLemmas.{at_one}
use Rattle.number_bags.proofs.CountLemmas.{is_number_is, one_number}
use Rattle.number_bags.proofs.counts.end_count.Goals as goal

pub returns-in-Some : goal.returns-in-Some
returns-in-Some c q =
    let es = c.args.entries.now.entries in
    let key = c.args.number.now in
    at_one (count_at es) (count_at (c.get_mut.follows.lender c.end.new.self).entries) (int_eq key) key (one_number key) (option_map (at_end c.args.with_changes)) (Some c.end.new.self)
    (ap (λ m. Some m) c.end.ensures ∙ ap (option_map (at_end c.args.with_changes)) c.in-Some.ensures.value) q
    (((c.get_mut.follows.holds c.end.new.self).3 (ap is_some (sym c.in-Some.ensures.value))).0 q ∙ ap (λ b. cond b (Some c.end.new.self) (count_at es q)) (is_number_is key q))
