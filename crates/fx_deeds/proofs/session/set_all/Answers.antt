use Rattle.std.proofs.lemmas.List.{nil_from_length}
use Rattle.session_state.specs.declared.change.Change.TheVariants as change
use Rattle.std.proofs.Common.{inl, map, refl}
use Rattle.fx_types.specs.ValueView.{view}
use Rattle.fx_deeds.proofs.CutOff.{CutSet, carried, cut_where, on_any, refused_stays, set_goes_on, carries_nowhere}
use Rattle.fx_base.specs.Silence.{SilenceCause}
use Rattle.fx_deeds.proofs.Steps.{can_rest, set_ends, set_goes, set_refused, setting, Whole}
use Rattle.fx_deeds.proofs.Allowing.{first_among, others_among}
use Rattle.fx_deeds.specs.Writable.{IsOneOf}
use Rattle.fx_deeds.proofs.Deeding.{goes_nowhere}
use Rattle.fx_deeds.specs.RemainingRows.{RestDecides}
use Rattle.fx_deeds.proofs.Attempts.{attempt_next, attempt_none}
use Rattle.fx_deeds.proofs.session.set_all.Goals as goal

pub returns-in_err-change-clause-attempt : goal.returns-in_err-change-clause-attempt
returns-in_err-change-clause-attempt g c = attempt_next _ _ _ (IsOneOf c.args.variables.now) _ (first_among c.loop-value.names.now _ _ (IsOneOf c.args.variables.now) c.first_variable-number.ensures c.loop-value.invariant.allowed) c.loop-value.invariant.attempt c.change.ensures.attempt

pub returns-then-not-branch-clause-done : goal.returns-then-not-branch-clause-done
returns-then-not-branch-clause-done g c =
    set_refused _ _ _ _ _ _ (setting c.args.variables.now c.args.values.now) _ _ _ _ _ _ _ _ _ c.loop-value.invariant.attempt.passed.later c.change.ensures.attempt.passed.later c.first_variable-number.ensures c.in-Some.ensures.cases.0
    c.in_ok-copy.ensures c.if-not-branch.true c.in_ok-error.ensures c.loop-value.invariant.done c.in_ok-change.ensures.done

pub loop-value-preserved : goal.loop-value-preserved
loop-value-preserved g c = record {
  attempt = attempt_next _ _ _ (IsOneOf c.args.variables.now) _ (first_among c.loop-value.names.now _ _ (IsOneOf c.args.variables.now) c.first_variable-number.ensures c.loop-value.invariant.allowed) c.loop-value.invariant.attempt c.change.ensures.attempt;
  allowed = others_among c.loop-value.names.now _ _ (IsOneOf c.args.variables.now) c.first_variable-number.ensures c.loop-value.invariant.allowed;
  can = can_rest (g.W.Env.fixed c.args.world.now).types _ _ c.loop-value.names.now _ _ c.loop-value.rest.now c.first_variable-number.ensures c.in-Some.ensures.cases.0 c.loop-value.invariant.can;
  done = set_goes _ _ _ _ _ _ (setting c.args.variables.now c.args.values.now) _ _ _ _ _ _ _ _ c.loop-value.invariant.attempt.passed.later c.change.ensures.attempt.passed.later c.first_variable-number.ensures c.in-Some.ensures.cases.0
      c.in_ok-copy.ensures c.if-not-branch.false c.loop-value.invariant.done c.in_ok-change.ensures.done;
  cut = set_goes_on _ _ _ _ _ _ (CutSet c.args.variables.now (map view c.args.values.now)) _ _ c.loop-value.names.now _ _ _ c.loop-value.rest.now _ c.loop-value.invariant.attempt.passed.later c.change.ensures.attempt.passed.later c.first_variable-number.ensures c.in-Some.ensures.cases.0
      c.in_ok-copy.ensures c.if-not-branch.false c.loop-value.invariant.cut c.in_ok-change.ensures.done;
}

pub returns-clause-done : goal.returns-clause-done
returns-clause-done g c =
    set_ends (SilenceCause (g.W.Env.marks c.args.world.now) (g.W.Env.marks c.loop-value.world)) (g.W.Env.fixed c.args.world.now).types (g.W.World.state c.args.world.now) (g.W.World.state c.loop-value.world)
    (setting c.args.variables.now c.args.values.now) c.loop-value.names.now c.loop-value.rest.now (nil_from_length _ c.in_default.ensures.cases) c.loop-value.invariant.can c.loop-value.invariant.done

pub returns-then-not-branch-clause-attempt : goal.returns-then-not-branch-clause-attempt
returns-then-not-branch-clause-attempt g c = attempt_next _ _ _ (IsOneOf c.args.variables.now) _ (first_among c.loop-value.names.now _ _ (IsOneOf c.args.variables.now) c.first_variable-number.ensures c.loop-value.invariant.allowed) c.loop-value.invariant.attempt c.change.ensures.attempt

pub returns-in_err-change-clause-cut : goal.returns-in_err-change-clause-cut
returns-in_err-change-clause-cut g c =
    on_any _
    (carried _ _ _ _ _ _ (CutSet c.loop-value.names.now (map view c.loop-value.rest.now)) (CutSet c.args.variables.now (map view c.args.values.now)) c.loop-value.invariant.attempt.passed.later c.change.ensures.attempt.passed.later (λ s. inl refl)
    c.loop-value.invariant.cut c.in_err-change.ensures.stops)

pub returns-in_err-copy-clause-cut : goal.returns-in_err-copy-clause-cut
returns-in_err-copy-clause-cut g c =
    on_any _
    (cut_where (SilenceCause (g.W.Env.marks c.args.world.now) (g.W.Env.marks c.loop-value.world)) (g.W.World.state c.args.world.now) (g.W.World.state c.loop-value.world) (CutSet c.loop-value.names.now (map view c.loop-value.rest.now))
    (CutSet c.args.variables.now (map view c.args.values.now)) (λ s. inl refl) c.loop-value.invariant.cut)

pub returns-in_err-error-clause-cut : goal.returns-in_err-error-clause-cut
returns-in_err-error-clause-cut g c =
    on_any _
    (carried _ _ _ _ _ _ (CutSet c.loop-value.names.now (map view c.loop-value.rest.now)) (CutSet c.args.variables.now (map view c.args.values.now)) c.loop-value.invariant.attempt.passed.later c.change.ensures.attempt.passed.later (λ s. inl refl)
    c.loop-value.invariant.cut
    (refused_stays (SilenceCause (g.W.Env.marks c.loop-value.world) (g.W.Env.marks c.change.new.world)) (change.Context c.first_variable-number.result.0 c.in_ok-copy.field-0) _ (g.W.World.state c.loop-value.world) (g.W.World.state c.change.new.world) c.if-not-branch.true c.in_ok-change.ensures.done))

pub loop-value-init : goal.loop-value-init
loop-value-init g c =
    let m = g.W.Env.marks c.args.world.now in
    let s = g.W.World.state c.args.world.now in
    let W : Whole (g.W.World.App) = setting c.args.variables.now c.args.values.now in
    record {
      attempt = attempt_none _ _;
      allowed = λ x h. h;
      can = c.requires;
      done = goes_nowhere (SilenceCause m m) (RestDecides W W) s (λ a x t h. h);
      cut = carries_nowhere (SilenceCause m m) s (CutSet c.args.variables.now (map view c.args.values.now));
    }

pub returns-in_err-error-clause-attempt : goal.returns-in_err-error-clause-attempt
returns-in_err-error-clause-attempt g c = attempt_next _ _ _ (IsOneOf c.args.variables.now) _ (first_among c.loop-value.names.now _ _ (IsOneOf c.args.variables.now) c.first_variable-number.ensures c.loop-value.invariant.allowed) c.loop-value.invariant.attempt c.change.ensures.attempt
