use Rattle.std.proofs.Common.{◌≡◌, cond, subst, false}
use Rattle.row_keeper.specs.Entries.{IndexEntry, entry_ended, is_entry_among, mark_at}
use Rattle.row_keeper.proofs.MarkLemmas.{back}
use Rattle.row_keeper.proofs.index.Index.restore.Goals as goal

pub returns-clause-now : goal.returns-clause-now
returns-clause-now c q =
    (back c.args.self.now.touched.items c.args.self.now.entries.entries c.end_all.new.entries.entries c.args.self.now.kept
    (subst (λ t. (p : IndexEntry) → mark_at c.end_all.new.entries.entries p ≡ cond (is_entry_among t p) (entry_ended false (mark_at c.args.self.now.entries.entries p)) (mark_at c.args.self.now.entries.entries p)) c.deref.ensures.value c.end_all.ensures) q).0

pub returns-clause-then : goal.returns-clause-then
returns-clause-then c q =
    (back c.args.self.now.touched.items c.args.self.now.entries.entries c.end_all.new.entries.entries c.args.self.now.kept
    (subst (λ t. (p : IndexEntry) → mark_at c.end_all.new.entries.entries p ≡ cond (is_entry_among t p) (entry_ended false (mark_at c.args.self.now.entries.entries p)) (mark_at c.args.self.now.entries.entries p)) c.deref.ensures.value c.end_all.ensures) q).1
