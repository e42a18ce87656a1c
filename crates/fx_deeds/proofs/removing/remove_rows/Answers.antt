use Rattle.std.proofs.Common.{inl, map, refl}
use Rattle.fx_types.specs.ValueView.{view}
use Rattle.fx_deeds.proofs.CutOff.{CutRemoved, carried, on_any, removed_goes, carries_nowhere}
use Rattle.fx_deeds.proofs.Steps.{remove_goes, remove_stops, removing, Whole}
use Rattle.fx_base.specs.Silence.{SilenceCause}
use Rattle.fx_deeds.proofs.Deeding.{goes_nowhere}
use Rattle.fx_deeds.specs.RemainingRows.{RestDecides}
use Rattle.fx_deeds.proofs.Attempts.{attempt_none, attempt_on}
use Rattle.fx_deeds.proofs.removing.remove_rows.Goals as goal

pub returns-in_err-answer-clause-attempt : goal.returns-in_err-answer-clause-attempt
returns-in_err-answer-clause-attempt g c = attempt_on _ _ _ _ c.loop-row.invariant.attempt c.remove_row.ensures.attempt

pub returns-in-Some-2-clause-done : goal.returns-in-Some-2-clause-done
returns-in-Some-2-clause-done g c =
    remove_stops _ _ _ _ _ _ (removing c.args.table c.args.rows.now) c.args.table c.in-Some.row.now c.in-Some-2.answer c.in_ok-answer.field-0 c.in-Some.others.now c.loop-row.rest.now c.loop-row.invariant.attempt.passed.later
    c.remove_row.ensures.attempt.passed.later c.in-Some.ensures.cases.0 c.in-Some-2.is c.loop-row.invariant.done c.in_ok-answer.ensures.done

pub loop-row-preserved : goal.loop-row-preserved
loop-row-preserved g c = record {
  attempt = attempt_on _ _ _ _ c.loop-row.invariant.attempt c.remove_row.ensures.attempt;
  done = remove_goes _ _ _ _ _ _ (removing c.args.table c.args.rows.now) c.args.table c.in-Some.row.now c.in_ok-answer.field-0 c.in-Some.others.now c.loop-row.rest.now c.loop-row.invariant.attempt.passed.later
      c.remove_row.ensures.attempt.passed.later c.in-Some.ensures.cases.0 c.in_default-2.not-Some c.loop-row.invariant.done c.in_ok-answer.ensures.done;
  cut = removed_goes _ _ _ _ _ _ (CutRemoved c.args.table (map view c.args.rows.now)) c.args.table c.in-Some.row.now c.in-Some.others.now c.loop-row.rest.now c.loop-row.invariant.attempt.passed.later
      c.remove_row.ensures.attempt.passed.later c.in-Some.ensures.cases.0 c.in_ok-answer.field-0 c.in_default-2.not-Some c.loop-row.invariant.cut c.in_ok-answer.ensures.done;
}

pub returns-in-Some-2-clause-attempt : goal.returns-in-Some-2-clause-attempt
returns-in-Some-2-clause-attempt g c = attempt_on _ _ _ _ c.loop-row.invariant.attempt c.remove_row.ensures.attempt

pub returns-in_err-answer-clause-cut : goal.returns-in_err-answer-clause-cut
returns-in_err-answer-clause-cut g c =
    on_any c.from_residual.result
    (carried _ _ _ _ _ _ (CutRemoved c.args.table (map view c.loop-row.rest.now)) (CutRemoved c.args.table (map view c.args.rows.now)) c.loop-row.invariant.attempt.passed.later c.remove_row.ensures.attempt.passed.later (λ s. inl refl)
    c.loop-row.invariant.cut c.in_err-answer.ensures.stops)

pub loop-row-init : goal.loop-row-init
loop-row-init g c =
    let m = g.W.Env.marks c.args.world.now in
    let s = g.W.World.state c.args.world.now in
    let W : Whole (g.W.World.App) = removing c.args.table c.args.rows.now in
    record {
      attempt = attempt_none _ _;
      done = goes_nowhere (SilenceCause m m) (RestDecides W W) s (λ a x t h. h);
      cut = carries_nowhere (SilenceCause m m) s (CutRemoved c.args.table (map view c.args.rows.now));
    }
