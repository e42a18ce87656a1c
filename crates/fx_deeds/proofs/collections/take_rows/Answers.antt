use Rattle.std.proofs.Common.{inl, map, refl}
use Rattle.fx_base.specs.Silence.{SilenceCause}
use Rattle.fx_types.specs.ValueView.{view}
use Rattle.fx_types.specs.Types.{column_list}
use Rattle.fx_deeds.proofs.CutOff.{CutTaken, carried, cut_where, on_any, taken_goes, carries_nowhere}
use Rattle.fx_deeds.proofs.Gathering.{take_goes, take_stops, taking}
use Rattle.fx_deeds.proofs.Deeding.{goes_nowhere}
use Rattle.fx_deeds.specs.RemainingRows.{RestDecides}
use Rattle.fx_deeds.proofs.Steps.{Whole}
use Rattle.fx_deeds.proofs.Attempts.{attempt_none, attempt_on}
use Rattle.fx_deeds.proofs.collections.take_rows.Goals as goal

pub returns-in_err-answer-clause-attempt : goal.returns-in_err-answer-clause-attempt
returns-in_err-answer-clause-attempt g c = attempt_on _ _ _ _ c.loop-sought.invariant.attempt c.take_row.ensures.attempt

pub returns-in-Some-2-clause-done : goal.returns-in-Some-2-clause-done
returns-in-Some-2-clause-done g c =
    take_stops _ _ _ _ _ _ (taking (column_list c.args.columns.now) c.args.collection c.args.rows.now) (column_list c.args.columns.now) c.args.collection c.in-Some.sought.now c.in-Some-2.answer c.in_ok-answer.field-0 c.in-Some.others.now
    c.loop-sought.rest.now c.in_ok-row.row c.loop-sought.invariant.attempt.passed.later c.take_row.ensures.attempt.passed.later c.in-Some.ensures.cases.0 c.in_ok-row.ensures c.in-Some-2.is c.loop-sought.invariant.done c.in_ok-answer.ensures.done

pub loop-sought-preserved : goal.loop-sought-preserved
loop-sought-preserved g c = record {
  attempt = attempt_on _ _ _ _ c.loop-sought.invariant.attempt c.take_row.ensures.attempt;
  done = take_goes _ _ _ _ _ _ (taking (column_list c.args.columns.now) c.args.collection c.args.rows.now) (column_list c.args.columns.now) c.args.collection c.in-Some.sought.now c.in_ok-answer.field-0 c.in-Some.others.now
      c.loop-sought.rest.now c.in_ok-row.row c.loop-sought.invariant.attempt.passed.later c.take_row.ensures.attempt.passed.later c.in-Some.ensures.cases.0 c.in_ok-row.ensures c.in_default-2.not-Some c.loop-sought.invariant.done c.in_ok-answer.ensures.done;
  cut = taken_goes _ _ _ _ _ _ (CutTaken (column_list c.args.columns.now) c.args.collection (map view c.args.rows.now)) (column_list c.args.columns.now) c.args.collection c.in-Some.sought.now c.in-Some.others.now c.loop-sought.rest.now c.in_ok-row.row c.loop-sought.invariant.attempt.passed.later
      c.take_row.ensures.attempt.passed.later c.in-Some.ensures.cases.0 c.in_ok-row.ensures c.in_ok-answer.field-0 c.in_default-2.not-Some c.loop-sought.invariant.cut c.in_ok-answer.ensures.done;
}

pub returns-in-Some-2-clause-attempt : goal.returns-in-Some-2-clause-attempt
returns-in-Some-2-clause-attempt g c = attempt_on _ _ _ _ c.loop-sought.invariant.attempt c.take_row.ensures.attempt

pub returns-in_err-answer-clause-cut : goal.returns-in_err-answer-clause-cut
returns-in_err-answer-clause-cut g c =
    on_any _
    (carried _ _ _ _ _ _ (CutTaken (column_list c.args.columns.now) c.args.collection (map view c.loop-sought.rest.now)) (CutTaken (column_list c.args.columns.now) c.args.collection (map view c.args.rows.now)) c.loop-sought.invariant.attempt.passed.later c.take_row.ensures.attempt.passed.later (λ s. inl refl) c.loop-sought.invariant.cut c.in_err-answer.ensures.stops)

pub returns-in_err-row-clause-cut : goal.returns-in_err-row-clause-cut
returns-in_err-row-clause-cut g c =
    on_any _
    (cut_where (SilenceCause (g.W.Env.marks c.args.world.now) (g.W.Env.marks c.loop-sought.world)) (g.W.World.state c.args.world.now) (g.W.World.state c.loop-sought.world) (CutTaken (column_list c.args.columns.now) c.args.collection (map view c.loop-sought.rest.now)) (CutTaken (column_list c.args.columns.now) c.args.collection (map view c.args.rows.now)) (λ s. inl refl) c.loop-sought.invariant.cut)

pub loop-sought-init : goal.loop-sought-init
loop-sought-init g c =
    let m = g.W.Env.marks c.args.world.now in
    let s = g.W.World.state c.args.world.now in
    let W : Whole (g.W.World.App) = taking (column_list c.args.columns.now) c.args.collection c.args.rows.now in
    record {
      attempt = attempt_none _ _;
      done = goes_nowhere (SilenceCause m m) (RestDecides W W) s (λ a x t h. h);
      cut = carries_nowhere (SilenceCause m m) s (CutTaken (column_list c.args.columns.now) c.args.collection (map view c.args.rows.now));
    }
