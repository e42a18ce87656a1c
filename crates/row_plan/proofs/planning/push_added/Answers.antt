use Rattle.std.proofs.Common.{◌∙◌, ◌+◌, ◌++◌, None, ap, arith}
use Rattle.row_plan.specs.Plan.{row_statements}
use Rattle.row_plan.specs.Shown.{all_shown}
use Rattle.row_plan.proofs.StepLemmas.{added_step}
use Rattle.row_plan.proofs.planning.push_added.Goals as goal

pub loop-body-preserved : goal.loop-body-preserved
loop-body-preserved c =
    let so_far = c.loop-body.invariant in
    let before = all_shown c.loop-body.steps.items in
    record {
      counted = omega (arith, so_far.counted);
      written =
          added_step (all_shown c.args.steps.now.items) before (all_shown c.push_row.new.steps.items) c.args.tab c.args.changes.now.first c.loop-body.last c.loop-body.body-index c.args.columns.now
          c.deref-body-items.result.now c.args.changes.now.added.items c.body-item.result c.deref-body-items.ensures.value c.loop-body-test.true c.body-item.is so_far.counted so_far.written
          (c.in_ok-push_row.ensures ∙ ap (λ body. before ++ row_statements c.args.tab c.args.columns.now (c.loop-body.last + 1) None body) c.bytes_of.ensures);
    }
