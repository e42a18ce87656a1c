use Rattle.recalc.proofs.Finding.{left_by, reads_left}
use Rattle.recalc.proofs.carrying.is_left.Goals as goal

pub returns-then-are_old_reads : goal.returns-then-are_old_reads
returns-then-are_old_reads c = (
  λ t.
      left_by c.args.old.now c.args.new.now c.args.before.now c.args.after.now c.as_slice-reads.result.now c.as_slice-were.result.now c.as_slice-reads.ensures c.as_slice-were.ensures
      (c.are_both_alone.ensures.0 c.if-not-are_both_alone.false) (c.are_old_reads.ensures.0 c.if-are_old_reads.true) (c.is_old_tree.ensures.0 t),
  λ l. c.is_old_tree.ensures.1 l.tree,
)

pub returns-else-are_old_reads : goal.returns-else-are_old_reads
returns-else-are_old_reads c = (
  λ t. absurd cc,
  λ l.
      let yes = c.are_old_reads.ensures.1 (reads_left c.args.old.now c.args.new.now c.args.before.now c.args.after.now c.as_slice-reads.result.now c.as_slice-were.result.now c.as_slice-reads.ensures c.as_slice-were.ensures l) in
      absurd cc,
)
