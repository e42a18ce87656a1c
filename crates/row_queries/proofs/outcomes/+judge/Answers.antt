use Rattle.std.proofs.Common.{arith}
use Rattle.row_queries.proofs.Judging.{part_asked, part_falls}
use Rattle.row_queries.proofs.outcomes.+judge.Goals as goal

pub judge_all-judge-requires : goal.judge_all-judge-requires
judge_all-judge-requires t c = (
  let h = part_falls c.args.tests.now c.loop-test.test-index c.test-item.result c.loop-test-test.true c.test-item.is in omega (arith, h),
  part_asked _ c.args.tests.now c.loop-test.test-index c.test-item.result c.loop-test-test.true c.test-item.is c.requires,
)

pub judge_any-judge-requires : goal.judge_any-judge-requires
judge_any-judge-requires t c = (
  let h = part_falls c.args.tests.now c.loop-test.test-index c.test-item.result c.loop-test-test.true c.test-item.is in omega (arith, h),
  part_asked _ c.args.tests.now c.loop-test.test-index c.test-item.result c.loop-test-test.true c.test-item.is c.requires,
)
