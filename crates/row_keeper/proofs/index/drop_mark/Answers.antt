use Rattle.std.proofs.Common.{None, ap, cond, sym, ◌∙◌}
use Rattle.row_keeper.specs.Entries.{is_entry, mark_at, while_entry}
use Rattle.row_keeper.proofs.EndLemmas.{at_none, at_one}
use Rattle.row_keeper.proofs.MarkLemmas.{is_entry_is, mark_stays, one_entry, void_out}
use Rattle.row_keeper.proofs.index.drop_mark.Goals as goal

pub returns-then-is_void : goal.returns-then-is_void
returns-then-is_void c q =
    let es = c.args.entries.now.entries in
    let key = c.args.entry.now in
    at_one (mark_at es) (mark_at c.remove.new.self.entries) (is_entry key) key (one_entry key) while_entry None (void_out (mark_at es key) (sym c.if-is_void.ensures)) q
    (c.remove.ensures.updates.0 q ∙ ap (λ b. cond b None (mark_at es q)) (is_entry_is key q))

pub returns-else-is_void : goal.returns-else-is_void
returns-else-is_void c q =
    at_none (mark_at c.args.entries.now.entries) (is_entry c.args.entry.now) c.args.entry.now (one_entry c.args.entry.now) while_entry (mark_stays (mark_at c.args.entries.now.entries c.args.entry.now) (sym c.if-is_void.ensures)) q
