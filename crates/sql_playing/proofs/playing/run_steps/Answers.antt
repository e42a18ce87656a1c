use Rattle.std.proofs.Common.{◌∙◌, arith, take}
use Rattle.sqlite.specs.Held.{state}
use Rattle.sqlite.specs.State.{HasCleanDisk}
use Rattle.row_plan.specs.Shown.{all_shown}
use Rattle.row_plan.specs.Statements.{after}
use Rattle.sql_playing.proofs.PlayLemmas.{inside_more, step_after}
use Rattle.sql_playing.proofs.playing.run_steps.Goals as goal

pub loop-step-preserved : goal.loop-step-preserved
loop-step-preserved g c =
    let old = state g.S.Store c.args.tx.now.conn.now in
    let mid = state g.S.Store c.loop-step.tx.conn.now in
    let new = state g.S.Store c.run_step.new.tx.conn.now in
    let early : HasCleanDisk new → HasCleanDisk mid = λ clean. omega (arith, clean, c.run_step.ensures.runs.survives.clean) in
    let so_far = c.loop-step.invariant in
    record {
      same = c.run_step.ensures.same_reference ∙ so_far.same;
      on = λ clean begun.
          let was = so_far.on (early clean) begun in
          let is = c.in_ok-run_step.ensures.on clean was.under_way in
          record { under_way = is.under_way; committed = is.committed ∙ was.committed };
      runs = inside_more old mid new so_far.on so_far.runs c.run_step.ensures.runs;
      done = λ clean k at can.
          let i = c.loop-step.step-index in
          let so = after (all_shown (take i c.args.steps.now)) k in
          step_after new k c.args.steps.now i _ c.loop-step-test.true can (λ fits. c.in_ok-run_step.ensures.ok clean so (so_far.done (early clean) k at can) fits);
    }

pub returns-in_err-run_step-clause-runs : goal.returns-in_err-run_step-clause-runs
returns-in_err-run_step-clause-runs g c =
    let old = state g.S.Store c.args.tx.now.conn.now in
    let mid = state g.S.Store c.loop-step.tx.conn.now in
    let new = state g.S.Store c.run_step.new.tx.conn.now in
    inside_more old mid new c.loop-step.invariant.on c.loop-step.invariant.runs c.run_step.ensures.runs
