use Rattle.std.proofs.Common.{◌≡◌, cond, subst, true}
use Rattle.row_keeper.specs.Entries.{IndexEntry, entry_ended, is_entry_among, mark_at}
use Rattle.row_keeper.proofs.MarkLemmas.{done}
use Rattle.row_keeper.proofs.index.Index.settle.Goals as goal

pub returns-clause-now : goal.returns-clause-now
returns-clause-now c q =
    (done c.args.self.now.touched.items c.args.self.now.entries.entries c.end_all.new.entries.entries c.args.self.now.kept
    (subst (λ t. (p : IndexEntry) → mark_at c.end_all.new.entries.entries p ≡ cond (is_entry_among t p) (entry_ended true (mark_at c.args.self.now.entries.entries p)) (mark_at c.args.self.now.entries.entries p)) c.deref.ensures.value c.end_all.ensures) q).0

pub returns-clause-then : goal.returns-clause-then
returns-clause-then c q =
    (done c.args.self.now.touched.items c.args.self.now.entries.entries c.end_all.new.entries.entries c.args.self.now.kept
    (subst (λ t. (p : IndexEntry) → mark_at c.end_all.new.entries.entries p ≡ cond (is_entry_among t p) (entry_ended true (mark_at c.args.self.now.entries.entries p)) (mark_at c.args.self.now.entries.entries p)) c.deref.ensures.value c.end_all.ensures) q).1
