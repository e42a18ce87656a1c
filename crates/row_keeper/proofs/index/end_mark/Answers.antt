use Rattle.std.proofs.Common.{Some, ap, cond, sym, ◌∙◌}
use Rattle.std.specs.Option.{is_some, option_map}
use Rattle.row_keeper.specs.Entries.{mark_at_end, is_entry, mark_at}
use Rattle.row_keeper.proofs.EndLemmas.{at_one}
use Rattle.row_keeper.proofs.MarkLemmas.{is_entry_is, one_entry}
use Rattle.row_keeper.proofs.index.end_mark.Goals as goal

pub returns-in-Some : goal.returns-in-Some
returns-in-Some c q =
    let es = c.args.entries.now.entries in
    let key = c.args.entry.now in
    at_one (mark_at es) (mark_at (c.get_mut.follows.lender c.end.new.self).entries) (is_entry key) key (one_entry key) (option_map (mark_at_end c.args.with_changes)) (Some c.end.new.self)
    (ap (λ m. Some m) c.end.ensures ∙ ap (option_map (mark_at_end c.args.with_changes)) c.in-Some.ensures.value) q
    (((c.get_mut.follows.holds c.end.new.self).3 (ap is_some (sym c.in-Some.ensures.value))).0 q ∙ ap (λ b. cond b (Some c.end.new.self) (mark_at es q)) (is_entry_is key q))
