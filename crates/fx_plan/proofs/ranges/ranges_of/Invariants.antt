use Rattle.std.proofs.Common.{◌≡◌, ◌+◌, [], drop}
use Rattle.fx_plan.specs.Ranges.{comparisons, first_reached}
use Rattle.fx_plan.proofs.ranges.ranges_of.Given as goal

-- what is left decides
abbrev pub invariant-loop-place : goal.invariant-loop-place
invariant-loop-place l = record {
  none : comparisons 0 l.test ≡ [];
  first : first_reached (l.place + 1) (drop l.place l.columns) l.test ≡ first_reached 1 l.columns l.test;
}
