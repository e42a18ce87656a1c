use Rattle.fx_types.specs.ValueView.{view}
use Rattle.fx_plan.proofs.SpanLaws.{one_span}
use Rattle.fx_plan.proofs.ranges.one.Goals as goal

pub returns : goal.returns
returns c =
    one_span c.keys_order.ensures.order c.compare_is_total.ensures.total c.args.op c.requires.served c.args.numbers (view c.args.constant.now) c.requires.taken.2.0.scalar c.value_is_proper.ensures _
    c.in_ok-range.ensures c.holds-blank.ensures c.zero_holds-zero.ensures
