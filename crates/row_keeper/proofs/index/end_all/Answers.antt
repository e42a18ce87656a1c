use Rattle.std.proofs.Common.{ap, cond, sym, take, ◌∙◌}
use Rattle.row_keeper.specs.Entries.{entry_ended, is_entry, is_entry_among, mark_at}
use Rattle.row_keeper.proofs.EndLemmas.{any_more, at_next}
use Rattle.row_keeper.proofs.MarkLemmas.{end_twice}
use Rattle.row_keeper.proofs.index.end_all.Goals as goal

pub loop-entry-preserved : goal.loop-entry-preserved
loop-entry-preserved c q =
    at_next (is_entry_among (take c.loop-entry.entry-index c.args.touched.now) q) (is_entry c.entry-item.result q) (entry_ended c.args.with_changes) (end_twice c.args.with_changes) (mark_at c.args.entries.now.entries q) (mark_at c.loop-entry.entries.entries q) (mark_at c.end_at.new.entries.entries q)
    (c.loop-entry.invariant q) (c.end_at.ensures q)
    ∙ ap (λ b. cond b (entry_ended c.args.with_changes (mark_at c.args.entries.now.entries q)) (mark_at c.args.entries.now.entries q))
    (sym (any_more (λ x. is_entry x q) c.args.touched.now c.loop-entry.entry-index c.entry-item.result c.entry-item.result c.loop-entry-test.true c.entry-item.is))
