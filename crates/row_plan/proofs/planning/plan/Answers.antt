use Rattle.std.proofs.Common.{arith}
use Rattle.row_plan.specs.Shown.{all_shown}
use Rattle.row_plan.proofs.StepLemmas.{table_step, tables_done}
use Rattle.row_plan.proofs.planning.plan.Goals as goal

pub loop-table-preserved : goal.loop-table-preserved
loop-table-preserved c =
    let so_far = c.loop-table.invariant in
    let there = c.in-Some.ensures.lookup in
    record {
      counted = omega (arith, so_far.counted);
      enough = omega (arith, so_far.counted, there.3.0);
      written =
          table_step (all_shown c.loop-table.steps.items) (all_shown c.push_table.new.steps.items) c.loop-table.table-index c.loop-table.tab c.args.tables.now c.args.changes.now c.table-item.result c.as_slice.result.now c.in-Some.change.now
          so_far.counted c.loop-table-test.true there.3.0 c.table-item.is c.as_slice.ensures there.1 so_far.written c.in_ok-push_table.ensures;
    }

pub returns : goal.returns
returns c = tables_done (all_shown c.loop-table.steps.items) c.loop-table.table-index c.args.tables.now c.args.changes.now c.loop-table-test.false c.loop-table.auto.table-index-end c.loop-table.invariant.written
