use Rattle.std.proofs.Common.{◌≤◌, ◌^◌}
use Rattle.sql_keeper.proofs.ranges.first_from.Given as goal

abbrev pub invariant-halving : goal.invariant-halving
invariant-halving l = record { low : l.low ≤ l.high; high : l.high ≤ 2 ^ 32 }
