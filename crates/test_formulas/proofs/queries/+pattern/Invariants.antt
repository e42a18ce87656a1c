use Rattle.std.proofs.Common.{◌+◌, ◌*◌}
use Rattle.test_formulas.proofs.queries.+pattern.Given as goal

abbrev pub decreases-write_pattern : goal.decreases-write_pattern
decreases-write_pattern l = 2 * l.depth

abbrev pub decreases-write_patterns : goal.decreases-write_patterns
decreases-write_patterns l = 2 * l.depth + 1
