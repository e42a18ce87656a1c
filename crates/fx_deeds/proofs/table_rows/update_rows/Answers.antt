use Rattle.std.proofs.Common.{map, inl, inr, subst, sym}
use Rattle.std.proofs.lemmas.List.{nil_from_length}
use Rattle.fx_base.specs.Silence.{SilenceCause}
use Rattle.fx_types.specs.ValueView.{view}
use Rattle.fx_env.specs.Scopes.{Fixed}
use Rattle.fx_deeds.proofs.Patching.{update_ends, update_goes, update_stops, updating}
use Rattle.fx_deeds.specs.Finding.{CanChangeEach, IsShape}
use Rattle.fx_deeds.proofs.CutOff.{on_any, carries_nowhere}
use Rattle.fx_deeds.proofs.CutUpdates.{CutUpdated, updated_cut, updated_goes}
use Rattle.fx_deeds.proofs.Deeding.{goes_nowhere}
use Rattle.fx_deeds.specs.RemainingRows.{RestDecides}
use Rattle.fx_deeds.proofs.Steps.{Whole}
use Rattle.fx_deeds.proofs.Attempts.{attempt_none, attempt_on}
use Rattle.fx_deeds.proofs.table_rows.update_rows.Goals as goal

pub update_row-requires-clause-shape : goal.update_row-requires-clause-shape
update_row-requires-clause-shape g c = subst (λ (f : Fixed). IsShape f.schema c.args.table c.args.shape.now) (sym c.loop-row.invariant.attempt.passed.fixed) c.requires.shape

pub update_row-requires-clause-can : goal.update_row-requires-clause-can
update_row-requires-clause-can g c =
    let can = subst (λ z. CanChangeEach c.args.shape.now (map view z)) c.in-Some-split_first.ensures.cases.0 c.loop-row.invariant.can in can.0

pub returns-in_err-answer-clause-attempt : goal.returns-in_err-answer-clause-attempt
returns-in_err-answer-clause-attempt g c = attempt_on _ _ _ _ c.loop-row.invariant.attempt c.update_row.ensures.attempt

pub returns-in-Some-2-clause-done : goal.returns-in-Some-2-clause-done
returns-in-Some-2-clause-done g c =
    update_stops _ _ _ _ _ _ (updating c.args.shape.now c.args.table c.args.rows.now c.args.changes.now) c.args.shape.now c.args.table c.in-Some.row.now c.in-Some.others.now c.loop-row.rest.now c.in-Some-split_first.change.now c.in-Some-2.answer
    c.in_ok-answer.field-0 c.in-Some-split_first.more.now c.loop-row.left.now c.loop-row.invariant.attempt.passed.later c.update_row.ensures.attempt.passed.later c.in-Some.ensures.cases.0 c.in-Some-split_first.ensures.cases.0 c.in-Some-2.is c.loop-row.invariant.done
    c.in_ok-answer.ensures.done

pub loop-row-preserved : goal.loop-row-preserved
loop-row-preserved g c = record {
  attempt = attempt_on _ _ _ _ c.loop-row.invariant.attempt c.update_row.ensures.attempt;
  can = (let can = subst (λ z. CanChangeEach c.args.shape.now (map view z)) c.in-Some-split_first.ensures.cases.0 c.loop-row.invariant.can in can.1);
  done = update_goes _ _ _ _ _ _ (updating c.args.shape.now c.args.table c.args.rows.now c.args.changes.now) c.args.shape.now c.args.table c.in-Some.row.now c.in-Some.others.now c.loop-row.rest.now c.in-Some-split_first.change.now
      c.in_ok-answer.field-0 c.in-Some-split_first.more.now c.loop-row.left.now c.loop-row.invariant.attempt.passed.later c.update_row.ensures.attempt.passed.later c.in-Some.ensures.cases.0 c.in-Some-split_first.ensures.cases.0 c.in_default-2.not-Some
      c.loop-row.invariant.done c.in_ok-answer.ensures.done;
  cut = updated_goes _ _ _ _ _ _ (CutUpdated c.args.shape.now c.args.table c.args.rows.now (map view c.args.changes.now)) c.args.shape.now c.args.table c.in-Some.row.now c.in-Some.others.now c.loop-row.rest.now c.in-Some-split_first.change.now c.in-Some-split_first.more.now c.loop-row.left.now c.loop-row.invariant.attempt.passed.later c.update_row.ensures.attempt.passed.later
      c.in-Some.ensures.cases.0 c.in-Some-split_first.ensures.cases.0
      c.in_ok-answer.field-0 c.in_default-2.not-Some c.loop-row.invariant.cut c.in_ok-answer.ensures.done;
}

pub returns-in_default-split_first-clause-done : goal.returns-in_default-split_first-clause-done
returns-in_default-split_first-clause-done g c =
    update_ends (SilenceCause (g.W.Env.marks c.args.world.now) (g.W.Env.marks c.loop-row.world)) (g.W.World.state c.args.world.now) (g.W.World.state c.loop-row.world) (updating c.args.shape.now c.args.table c.args.rows.now c.args.changes.now)
    c.args.shape.now c.args.table c.loop-row.rest.now c.loop-row.left.now (inr (nil_from_length _ c.in_default-split_first.ensures.cases)) c.loop-row.invariant.done

pub returns-clause-done : goal.returns-clause-done
returns-clause-done g c =
    update_ends (SilenceCause (g.W.Env.marks c.args.world.now) (g.W.Env.marks c.loop-row.world)) (g.W.World.state c.args.world.now) (g.W.World.state c.loop-row.world) (updating c.args.shape.now c.args.table c.args.rows.now c.args.changes.now)
    c.args.shape.now c.args.table c.loop-row.rest.now c.loop-row.left.now (inl (nil_from_length _ c.in_default.ensures.cases)) c.loop-row.invariant.done

pub returns-in-Some-2-clause-attempt : goal.returns-in-Some-2-clause-attempt
returns-in-Some-2-clause-attempt g c = attempt_on _ _ _ _ c.loop-row.invariant.attempt c.update_row.ensures.attempt

pub returns-in_err-answer-clause-cut : goal.returns-in_err-answer-clause-cut
returns-in_err-answer-clause-cut g c =
    on_any _
    (updated_cut _ _ _ _ _ _ (CutUpdated c.args.shape.now c.args.table c.args.rows.now (map view c.args.changes.now)) c.args.shape.now c.args.table c.in-Some.row.now c.in-Some.others.now c.loop-row.rest.now c.in-Some-split_first.change.now c.in-Some-split_first.more.now c.loop-row.left.now c.loop-row.invariant.attempt.passed.later c.update_row.ensures.attempt.passed.later c.in-Some.ensures.cases.0 c.in-Some-split_first.ensures.cases.0 c.loop-row.invariant.cut c.in_err-answer.ensures.cut)

pub loop-row-init : goal.loop-row-init
loop-row-init g c =
    let m = g.W.Env.marks c.args.world.now in
    let s = g.W.World.state c.args.world.now in
    let W : Whole (g.W.World.App) = updating c.args.shape.now c.args.table c.args.rows.now c.args.changes.now in
    record {
      attempt = attempt_none _ _;
      can = c.requires.can;
      done = goes_nowhere (SilenceCause m m) (RestDecides W W) s (λ a x t h. h);
      cut = carries_nowhere (SilenceCause m m) s (CutUpdated c.args.shape.now c.args.table c.args.rows.now (map view c.args.changes.now));
    }
