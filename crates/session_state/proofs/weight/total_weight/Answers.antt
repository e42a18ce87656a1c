use Rattle.std.proofs.Common.{◌<◌, ◌^◌, arith, map}
use Rattle.std.specs.List.{sum_by}
use Rattle.std.proofs.lemmas.List.Sums.{sum_by-take-le}
use Rattle.fx_types.specs.ValueView.{view}
use Rattle.session_state.specs.Sessions.{weighed}
use Rattle.session_state.proofs.Weights.{one_more, one_more_le, sum_is_little}
use Rattle.session_state.proofs.weight.total_weight.Goals as goal

pub overflow_add-sum : goal.overflow_add-sum
overflow_add-sum c =
    let vs = c.args.values.now in
    let le = one_more_le vs c.loop-value.value-index c.value-item.result c.loop-value-test.true c.value-item.is in
    let little : sum_by weighed (map view vs) < 2 ^ 127 = sum_is_little vs c.requires in
    omega (arith, le, little, c.loop-value.invariant, c.weigh.ensures, c.from-sum.ensures)

pub loop-value-preserved : goal.loop-value-preserved
loop-value-preserved c =
    let more = one_more c.args.values.now c.loop-value.value-index c.value-item.result c.loop-value-test.true c.value-item.is in
    omega (arith, more, c.loop-value.invariant, c.weigh.ensures, c.from-sum.ensures)

pub returns-clause-few : goal.returns-clause-few
returns-clause-few c =
    let vs = c.args.values.now in
    let le = sum_by-take-le weighed (map view vs) c.loop-value.value-index in
    let little : sum_by weighed (map view vs) < 2 ^ 127 = sum_is_little vs c.requires in
    omega (arith, le, little, c.loop-value.invariant)
