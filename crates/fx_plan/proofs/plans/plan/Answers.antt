use Rattle.std.proofs.Common.{map, refl}
use Rattle.fx_types.specs.ValueView.{view}
use Rattle.fx_plan.proofs.Planned.{planned_query, planned_taken, there}
use Rattle.fx_plan.proofs.plans.plan.Goals as goal

pub reach_of-requires-clause-taken : goal.reach_of-requires-clause-taken
reach_of-requires-clause-taken c =
    planned_taken c.args.schema.now.tables c.args.sketch.now (map view c.args.constants.now) c.requires c.in-Some.table.now c.in-Some.ensures c.in_ok-test.test c.in_ok-test.ensures

pub unreachable-requires : goal.unreachable-requires
unreachable-requires c = there c.args.schema.now.tables c.args.sketch.now.table c.requires.table c.in-None.ensures c.requires.is_table

pub returns-clause-query : goal.returns-clause-query
returns-clause-query c =
    planned_query c.args.schema.now.tables c.args.sketch.now (map view c.args.constants.now) c.requires c.in-Some.table.now c.in-Some.ensures _ refl c.in_ok-test.ensures refl
    c.in_ok-reach-in-Some.ensures.within c.in_ok-reach-in-Some.ensures.rises c.in_ok-reach-in-Some.ensures.reaches
