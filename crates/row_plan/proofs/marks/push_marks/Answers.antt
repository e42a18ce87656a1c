use Rattle.std.proofs.Common.{arith}
use Rattle.row_plan.specs.Shown.{all_shown, seen}
use Rattle.row_plan.proofs.StepLemmas.{marks_step}
use Rattle.row_plan.proofs.marks.push_marks.Goals as goal

pub loop-column-preserved : goal.loop-column-preserved
loop-column-preserved c =
    let so_far = c.loop-column.invariant in
    record {
      counted = omega (arith, so_far.counted, c.in-Some.ensures);
      written =
          marks_step (all_shown c.args.steps.now.items) (all_shown c.loop-column.steps.items) (all_shown c.push_column.new.steps.items) c.args.tab c.loop-column.last c.in-Some.number c.loop-column.column-index c.args.id c.args.columns.now
          c.column-item.result (seen c.args.was) (seen c.args.now) c.loop-column-test.true c.column-item.is so_far.counted (omega (arith, c.in-Some.ensures)) so_far.written c.in_ok-push_column.ensures;
    }
