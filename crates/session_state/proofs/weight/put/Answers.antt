use Rattle.std.proofs.Common.{◌<◌, ◌≤◌, length, map, arith, sym, ◌∙◌, ap}
use Rattle.std.specs.List.{sum_by}
use Rattle.fx_types.specs.ValueView.{view}
use Rattle.session_state.specs.Sessions.{weighed, may_weigh}
use Rattle.session_state.proofs.Weights.{part_of, after}
use Rattle.session_state.proofs.weight.put.Goals as goal

pub weight_after-requires : goal.weight_after-requires
weight_after-requires c =
    let there : c.args.number < length c.args.values.now.items = omega (arith, c.requires.there) in
    let small : weighed (view c.index.result.now) ≤ sum_by weighed (map view c.args.values.now.items) = part_of c.args.values.now.items c.args.number c.index.result.now there c.index.ensures in
    omega (arith, c.requires.part)

pub returns-in_default-clause-answer : goal.returns-in_default-clause-answer
returns-in_default-clause-answer c =
    let there : c.args.number < length c.args.values.now.items = omega (arith, c.requires.there) in
    let is = after c.args.weight.now c.args.values.now.items c.args.number c.index.result.now (view c.args.value) c.weigh-old.result c.weigh.result there c.index.ensures c.requires.part c.weigh-old.ensures c.weigh.ensures in
    sym c.in_default.ensures ∙ ap (may_weigh c.args.weight.now) is

pub returns-clause-answer : goal.returns-clause-answer
returns-clause-answer c =
    let there : c.args.number < length c.args.values.now.items = omega (arith, c.requires.there) in
    let is = after c.args.weight.now c.args.values.now.items c.args.number c.index.result.now (view c.args.value) c.weigh-old.result c.weigh.result there c.index.ensures c.requires.part c.weigh-old.ensures c.weigh.ensures in
    sym c.in-Some.ensures.1 ∙ ap (may_weigh c.args.weight.now) is

pub returns-clause-weight : goal.returns-clause-weight
returns-clause-weight c =
    let there : c.args.number < length c.args.values.now.items = omega (arith, c.requires.there) in
    let is = after c.args.weight.now c.args.values.now.items c.args.number c.index.result.now (view c.args.value) c.weigh-old.result c.weigh.result there c.index.ensures c.requires.part c.weigh-old.ensures c.weigh.ensures in
    c.in-Some.ensures.0 ∙ is
