use Rattle.std.proofs.Common.{◌≡◌, ◌++◌, length}
use Rattle.fx_deeds.proofs.tables.with_copies.Given as goal

abbrev pub invariant-loop-row : goal.invariant-loop-row
invariant-loop-row l = l.rows ++ l.rest ≡ l.fn.rows ++ l.more

abbrev pub decreases-loop-row : goal.decreases-loop-row
decreases-loop-row l = length l.rest
