use Rattle.std.proofs.Common.{◌+◌, ◌*◌}
use Rattle.test_formulas.proofs.types.+types.Given as goal

abbrev pub decreases-write_type : goal.decreases-write_type
decreases-write_type l = 2 * l.depth

abbrev pub decreases-write_columns : goal.decreases-write_columns
decreases-write_columns l = 2 * l.depth + 1
