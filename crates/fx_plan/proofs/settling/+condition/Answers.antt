use Rattle.std.proofs.Common.{arith, sym, map, ◌∙◌}
use Rattle.std.proofs.lemmas.Result.{IfOk-weaker}
use Rattle.fx_types.specs.ValueView.{view}
use Rattle.fx_plan.proofs.Delegable.{part_falls}
use Rattle.fx_plan.proofs.SettledPlaces.{all_settled, constant_settled, one_settled}
use Rattle.fx_plan.proofs.settling.+condition.Goals as goal

pub condition-returns-then-is_constant : goal.condition-returns-then-is_constant
condition-returns-then-is_constant t c =
    IfOk-weaker c.next_value.result _ _
    (λ x k. constant_settled c.args.depth (map view c.args.values.now) c.args.part.now x c.args.place.now _ (sym c.is_constant.ensures ∙ c.if-is_constant.true) k.0 k.1) c.next_value.ensures

pub conditions-condition-requires : goal.conditions-condition-requires
conditions-condition-requires t c =
    let h = part_falls c.args.parts.now c.loop-part.part-index c.part-item.result c.loop-part-test.true c.part-item.is in omega (arith, h)

pub conditions-loop-part-preserved : goal.conditions-loop-part-preserved
conditions-loop-part-preserved t c =
    one_settled c.args.depth (map view c.args.values.now) c.loop-part.settled c.push.new.self c.args.parts.now c.loop-part.part-index c.loop-part.place c.condition.new.place c.part-item.result c.in_ok-condition.field-0 _
    c.loop-part-test.true c.part-item.is c.in_ok-push.ensures.ok c.in_ok-condition.ensures c.loop-part.invariant

pub conditions-returns : goal.conditions-returns
conditions-returns t c =
    all_settled c.args.depth (map view c.args.values.now) c.loop-part.settled c.args.parts.now c.loop-part.part-index c.loop-part.place _ (let e = c.loop-part-test.false in omega (arith, e)) c.loop-part.invariant
