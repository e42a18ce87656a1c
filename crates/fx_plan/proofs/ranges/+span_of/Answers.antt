use Rattle.std.proofs.Common.{arith}
use Rattle.row_queries.proofs.Judging.{part_falls}
use Rattle.fx_plan.proofs.Conjuncts.{span_more, taken_part}
use Rattle.fx_plan.proofs.ranges.+span_of.Goals as goal

pub span_of_all-span_of-requires : goal.span_of_all-span_of-requires
span_of_all-span_of-requires t c = (
  let h = part_falls c.args.tests.now c.loop-test.test-index c.test-item.result c.loop-test-test.true c.test-item.is in omega (arith, h),
  (c.requires.0, c.requires.1, taken_part c.requires.0 c.args.column c.args.tests.now c.loop-test.test-index c.test-item.result c.loop-test-test.true c.test-item.is c.requires.2),
)

pub span_of_all-loop-test-preserved : goal.span_of_all-loop-test-preserved
span_of_all-loop-test-preserved t c =
    span_more c.args.numbers c.args.column c.args.tests.now c.loop-test.test-index c.test-item.result _ _ _ c.loop-test-test.true c.test-item.is c.loop-test.invariant c.in_ok-next.ensures c.join-found.ensures
