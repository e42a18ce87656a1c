use Rattle.std.proofs.Common.{ℕ, ◌+◌, ◌*◌, ◌<◌}
use Rattle.fx_core.specs.Term.{term_size}
use Rattle.recalc.specs.Carrying.{IsOldPart, IsOldSource, subtree_at, subtrees}
use Rattle.recalc.proofs.trees.+is_old_tree.Given as goal

abbrev pub decreases-is_old_tree : goal.decreases-is_old_tree
decreases-is_old_tree l = 2 * term_size l.tree.now + 1

abbrev pub decreases-is_old_part : goal.decreases-is_old_part
decreases-is_old_part l = 2 * term_size l.tree.now

abbrev pub invariant-is_old_tree-loop-place : goal.invariant-is_old_tree-loop-place
invariant-is_old_tree-loop-place l = (k : ℕ) → k < l.place → IsOldPart (IsOldSource l.old l.new) (subtree_at (subtrees l.tree) k) (subtree_at (subtrees l.was) k)
