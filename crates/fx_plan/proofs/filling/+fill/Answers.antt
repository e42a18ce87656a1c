use Rattle.std.proofs.Common.{arith, map}
use Rattle.fx_types.specs.ValueView.{view}
use Rattle.fx_plan.proofs.Outlined.{filled_more, part_falls, part_within}
use Rattle.fx_plan.proofs.filling.+fill.Goals as goal

pub fill_all-fill-requires : goal.fill_all-fill-requires
fill_all-fill-requires t c = (
  let h = part_falls c.args.patterns.now c.loop-pattern.pattern-index c.pattern-item.result c.loop-pattern-test.true c.pattern-item.is in omega (arith, h),
  part_within _ c.args.patterns.now c.loop-pattern.pattern-index c.pattern-item.result c.loop-pattern-test.true c.pattern-item.is c.requires,
)

pub fill_all-loop-pattern-preserved : goal.fill_all-loop-pattern-preserved
fill_all-loop-pattern-preserved t c =
    filled_more (map view c.args.constants.now) c.args.patterns.now c.loop-pattern.pattern-index c.pattern-item.result c.loop-pattern.tests _ _ c.loop-pattern-test.true c.pattern-item.is
    c.loop-pattern.invariant c.in_ok-fill.ensures c.in_ok-push.ensures.ok
