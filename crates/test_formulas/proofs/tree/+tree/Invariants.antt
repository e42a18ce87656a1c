use Rattle.std.proofs.Common.{◌+◌, ◌*◌}
use Rattle.test_formulas.proofs.tree.+tree.Given as goal

abbrev pub decreases-write_tree : goal.decreases-write_tree
decreases-write_tree l = 2 * l.depth

abbrev pub decreases-write_parts : goal.decreases-write_parts
decreases-write_parts l = 2 * l.depth + 1

abbrev pub decreases-write_fields : goal.decreases-write_fields
decreases-write_fields l = 2 * l.depth + 1
