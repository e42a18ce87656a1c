use Rattle.std.proofs.Common.{◌≡◌, ◌∷◌, [], ◌∙◌, List, map, true, ap, sym, subst, refl, arith, inl, inr}
use Rattle.std.proofs.lemmas.List.{map-append, nil_from_length}
use Rattle.std.proofs.lemmas.Result.{IfOk-weaker, on_err_weaker}
use Rattle.std.specs.Prelude.{IfOk, OnErr}
use Rattle.fx_base.proofs.Silences.{rose_before}
use Rattle.fx_base.specs.Silence.{MayFallSilent, SilenceCause}
use Rattle.fx_types.specs.Types.{booleans}
use Rattle.fx_types.specs.Values.{fault}
use Rattle.fx_types.specs.ValueView.{view}
use Rattle.fx_eval.proofs.ListRows.{can_list}
use Rattle.fx_eval.proofs.Sizes.{one_falls, parts_fall, table_falls}
use Rattle.fx_eval.specs.Parts.{caught_in, inner}
use Rattle.fx_env.specs.Scopes.{Fixed}
use Rattle.fx_scalar.specs.LazyForms.{CanMatch, decision_of, none_left as none_left_of}
use Rattle.fx_semantics.specs.Around.{record_of}
use Rattle.fx_semantics.specs.Sound.{AreFit}
use Rattle.fx_core.specs.declared.deeds.Deed.{Deed}
use Rattle.fx_core.specs.declared.functions.Form.TheVariants as form
use Rattle.fx_core.specs.declared.functions.Fun.TheVariants as fun
use Rattle.fx_core.specs.declared.trees.CoreNode.{CoreNode}
use Rattle.fx_core.specs.declared.trees.CoreNode.TheVariants as kind
use Rattle.fx_core.specs.Term.{Term, all, cons, nil, of, terms_size}
use Rattle.fx_core.specs.Term as top
use Rattle.fx_core.specs.TermView.{core_branch}
use Rattle.fx_value.specs.Fits.{fits_in}
use Rattle.fx_core.specs.declared.deeds.Deed.TheVariants as deed
use Rattle.fx_deeds.proofs.Passing.{passed_on}
use Rattle.fx_deeds.specs.CutOff.{CutDeed, CutUpdate}
use Rattle.fx_deeds.specs.Doable.{AnswersAs, CanDo, CanUpdate}
use Rattle.fx_deeds.specs.Done.{IsDeed, IsUpdate}
use Rattle.fx_deeds.specs.RemainingRows.{RestDecides}
use Rattle.fx_deeds.specs.State.{eval_frame, ground}
use Rattle.fx_deeds.specs.Writable.{DeedMayWrite}
use Rattle.fx_behave.proofs.Acted as acted
use Rattle.fx_behave.proofs.Cutting as cutting
use Rattle.fx_behave.proofs.Actables.{chain_actable, if_actable, formula_actable, quiet_ready, record_actable, recover_actable, switch_actable}
use Rattle.fx_behave.proofs.Eaches.{formula_is, formula_there, gone, table_can}
use Rattle.fx_behave.proofs.Following as left
use Rattle.fx_behave.proofs.Formulas as formulas
use Rattle.fx_behave.proofs.Going.{begins}
use Rattle.fx_behave.proofs.Heads as heads
use Rattle.fx_behave.proofs.Nodes as nodes
use Rattle.fx_behave.proofs.Sequences as steps
use Rattle.fx_behave.proofs.Sequences.{is_no_error, refl_le}
use Rattle.fx_behave.proofs.Updated as updated
use Rattle.fx_behave.proofs.Allowing.{attempt_all, attempt_one, attempt_parts, attempt_same, first_may, others_may}
use Rattle.fx_behave.specs.Actable.{AreActingBranches, AreActingRecoveries, CanAct, LastHasType, IsActable, IsActableInside, IsMatchedBy, IsActingSwitch}
use Rattle.fx_behave.specs.CutOff.{IsActCut, IsBranchCut, IsCutOff, IsForAllCut, IsSwitchCut, IsUpdateIfCut, cut_part as part_of, parts as parts_of}
use Rattle.fx_behave.specs.Perform.{PerformsEach, IsBranched, IsForAll, PerformsSwitch, IsUpdateIf, Performs, switch_decision, performing, performings}
use Rattle.fx_behave.specs.Writable.{AnyMayWrite, MayWrite}
use Rattle.fx_deeds.proofs.Attempts.{attempt_next, attempt_none, attempt_on, attempt_over, attempt_wider, look_attempts}
use Rattle.fx_behave.proofs.acting.+perform.Goals as goal

pub chain-loop-part-init : goal.chain-loop-part-init
chain-loop-part-init g t c =
    record {
      attempt = attempt_none _ _;
      allowed = λ x m. m;
      scope = refl;
      fits = λ u r. r;
      done = begins _ _ (steps.chain_of (ground g.W.World.gives (g.W.Env.fixed c.args.world.now)) c.args.scope.now c.args.parts.now);
      small = refl_le (terms_size (all c.args.parts.now));
      cut = cutting.cut_begins _ _ (cutting.parts_left (ground g.W.World.gives (g.W.Env.fixed c.args.world.now)) c.args.scope.now c.args.parts.now);
    }

pub chain-perform-requires : goal.chain-perform-requires
chain-perform-requires g t c κs within =
    let j = steps.first_is_smaller c.loop-part.rest.now c.in-Some.part.now c.in-Some.others.now (terms_size (all c.args.parts.now)) c.in-Some.ensures.cases.0 c.loop-part.invariant.small in (
      omega (arith, j),
      (within.0, (within.1, steps.moved (λ f h. CanAct f.types h c.in-Some.part.now) _ _ _ _ c.loop-part.invariant.attempt.passed.fixed c.loop-part.invariant.scope (left.chain_first (g.W.Env.fixed c.args.world.now).types c.args.scope.now c.requires.0 c.in-Some.part.now c.in-Some.others.now c.loop-part.rest.now c.in-Some.ensures.cases.0 (c.loop-part.invariant.fits c.requires.0 c.requires.1)))),
    )

pub chain-perform-requires-in-Some : goal.chain-perform-requires-in-Some
chain-perform-requires-in-Some g t c κs within =
    let j = steps.first_is_smaller c.loop-part.rest.now c.in-Some.part.now c.in-Some.others.now (terms_size (all c.args.parts.now)) c.in-Some.ensures.cases.0 c.loop-part.invariant.small in (
      omega (arith, j),
      (within.0, (within.1, steps.moved (λ f h. CanAct f.types h c.in-Some.part.now) _ _ _ _ c.loop-part.invariant.attempt.passed.fixed c.loop-part.invariant.scope (left.chain_first (g.W.Env.fixed c.args.world.now).types c.args.scope.now c.requires.0 c.in-Some.part.now c.in-Some.others.now c.loop-part.rest.now c.in-Some.ensures.cases.0 (c.loop-part.invariant.fits c.requires.0 c.requires.1)))),
    )

pub chain-returns-then-is_empty-clause-attempt : goal.chain-returns-then-is_empty-clause-attempt
chain-returns-then-is_empty-clause-attempt g t c = attempt_next _ _ _ (AnyMayWrite (all c.args.parts.now)) (MayWrite c.in-Some.part.now) (first_may c.loop-part.rest.now c.in-Some.part.now c.in-Some.others.now (AnyMayWrite (all c.args.parts.now)) c.in-Some.ensures.cases.0 c.loop-part.invariant.allowed) c.loop-part.invariant.attempt c.perform.ensures.attempt

pub chain-returns-then-is_empty-clause-done : goal.chain-returns-then-is_empty-clause-done
chain-returns-then-is_empty-clause-done g t c =
    IfOk-weaker c.perform.result _ _
    (λ v k. steps.chain_ends g.W.World.gives _ _ _ _ _ _ _ _ _ _ (steps.chain_of (ground g.W.World.gives (g.W.Env.fixed c.args.world.now)) c.args.scope.now c.args.parts.now) c.in-Some.part.now c.in-Some.others.now c.loop-part.rest.now (view v) c.loop-part.invariant.attempt.passed.fixed c.loop-part.invariant.scope c.loop-part.invariant.attempt.passed.later c.perform.ensures.attempt.passed.later c.in-Some.ensures.cases.0 (steps.none_left_is _ (sym c.is_empty.ensures ∙ c.if-is_empty.true)) c.loop-part.invariant.done k)
    c.perform.ensures.done

pub chain-returns-then-is_empty-clause-fits : goal.chain-returns-then-is_empty-clause-fits
chain-returns-then-is_empty-clause-fits g t c =
    λ u r. c.perform.ensures.fits u (steps.moved (λ f h. IsActable f.types h c.in-Some.part.now u) _ _ _ _ c.loop-part.invariant.attempt.passed.fixed c.loop-part.invariant.scope (left.chain_last (g.W.Env.fixed c.args.world.now).types c.args.scope.now u c.in-Some.part.now c.in-Some.others.now c.loop-part.rest.now c.in-Some.ensures.cases.0 (steps.none_left_is _ (sym c.is_empty.ensures ∙ c.if-is_empty.true)) (c.loop-part.invariant.fits u r)))

pub chain-loop-part-preserved : goal.chain-loop-part-preserved
chain-loop-part-preserved g t c =
    record {
      attempt = attempt_next _ _ _ (AnyMayWrite (all c.args.parts.now)) (MayWrite c.in-Some.part.now) (first_may c.loop-part.rest.now c.in-Some.part.now c.in-Some.others.now (AnyMayWrite (all c.args.parts.now)) c.in-Some.ensures.cases.0 c.loop-part.invariant.allowed) c.loop-part.invariant.attempt c.perform-in-Some.ensures.attempt;
      allowed = others_may c.loop-part.rest.now c.in-Some.part.now c.in-Some.others.now (AnyMayWrite (all c.args.parts.now)) c.in-Some.ensures.cases.0 c.loop-part.invariant.allowed;
      scope = c.perform-in-Some.ensures.scope ∙ c.loop-part.invariant.scope;
      fits = λ u r. left.chain_rest (g.W.Env.fixed c.args.world.now).types c.args.scope.now u c.in-Some.part.now c.in-Some.others.now c.loop-part.rest.now c.in-Some.ensures.cases.0 (steps.some_left _ (sym c.is_empty.ensures ∙ c.if-is_empty.false)) (c.loop-part.invariant.fits u r);
      done = steps.chain_goes g.W.World.gives _ _ _ _ _ _ _ _ _ _ (steps.chain_of (ground g.W.World.gives (g.W.Env.fixed c.args.world.now)) c.args.scope.now c.args.parts.now) c.in-Some.part.now c.in-Some.others.now c.loop-part.rest.now _ c.loop-part.invariant.attempt.passed.fixed c.loop-part.invariant.scope c.loop-part.invariant.attempt.passed.later c.perform-in-Some.ensures.attempt.passed.later c.in-Some.ensures.cases.0 (steps.some_left _ (sym c.is_empty.ensures ∙ c.if-is_empty.false)) c.loop-part.invariant.done c.in_ok-perform.ensures.done;
      small = let j = steps.first_is_smaller c.loop-part.rest.now c.in-Some.part.now c.in-Some.others.now (terms_size (all c.args.parts.now)) c.in-Some.ensures.cases.0 c.loop-part.invariant.small in omega (arith, j);
      cut = cutting.parts_go g.W.World.gives _ _ _ _ _ _ _ _ _ _ (cutting.parts_left (ground g.W.World.gives (g.W.Env.fixed c.args.world.now)) c.args.scope.now c.args.parts.now) c.in-Some.part.now c.in-Some.others.now c.loop-part.rest.now c.loop-part.invariant.attempt.passed.fixed c.loop-part.invariant.scope c.loop-part.invariant.attempt.passed.later c.perform-in-Some.ensures.attempt.passed.later c.in-Some.ensures.cases.0 _ c.loop-part.invariant.cut c.in_ok-perform.ensures.done;
    }

pub chain-returns-in_err-perform-clause-attempt : goal.chain-returns-in_err-perform-clause-attempt
chain-returns-in_err-perform-clause-attempt g t c = attempt_next _ _ _ (AnyMayWrite (all c.args.parts.now)) (MayWrite c.in-Some.part.now) (first_may c.loop-part.rest.now c.in-Some.part.now c.in-Some.others.now (AnyMayWrite (all c.args.parts.now)) c.in-Some.ensures.cases.0 c.loop-part.invariant.allowed) c.loop-part.invariant.attempt c.perform-in-Some.ensures.attempt

pub chain-unreachable-requires : goal.chain-unreachable-requires
chain-unreachable-requires g t c =
    subst (LastHasType (g.W.Env.fixed c.args.world.now).types c.args.scope.now c.requires.0) (nil_from_length _ c.in_default.ensures.cases) (c.loop-part.invariant.fits c.requires.0 c.requires.1)

pub node-chain-requires : goal.node-chain-requires
node-chain-requires g t c κs within =
    let h = parts_fall _ _ _ _ (sym (ap core_branch c.in-Chain.is) ∙ c.core.view_is) c.as_slice.ensures in (
      omega (arith, h),
      (within.0, (within.1, (c.requires.can.0, heads.parts_found (λ u ts. LastHasType (g.W.Env.fixed c.args.world.now).types c.args.scope.now u ts) (g.W.Env.fixed c.args.world.now).types c.args.scope.now top.chain _ c.as_slice.result.now _ (λ u r. chain_actable (g.W.Env.fixed c.args.world.now).types c.args.scope.now _ u r) (sym (ap core_branch c.in-Chain.is) ∙ c.core.view_is) c.as_slice.ensures c.requires.can.0 c.requires.can.1))),
    )

pub node-returns-in-Chain : goal.node-returns-in-Chain
node-returns-in-Chain g t c =
    formulas.formula_is g.W.World.gives _ _ c.args.scope.now _ c.chain.result top.chain _ c.as_slice.result.now _ (sym (ap core_branch c.in-Chain.is) ∙ c.core.view_is) c.as_slice.ensures c.requires.acts
    (record { attempt = attempt_all _ _ top.chain _ c.chain.ensures.attempt; scope = c.chain.ensures.scope; keeper = c.chain.ensures.keeper; done = c.chain.ensures.done; cut = c.chain.ensures.cut; fits = λ u r. c.chain.ensures.fits u (chain_actable (g.W.Env.fixed c.args.world.now).types c.args.scope.now _ u r) })

pub node-branches-requires : goal.node-branches-requires
node-branches-requires g t c κs within =
    let h = parts_fall _ _ _ _ (sym (ap core_branch c.in-If.is) ∙ c.core.view_is) c.as_slice-in-If.ensures in (
      omega (arith, h),
      (within.0, (within.1, (c.requires.can.0, heads.parts_found (λ u ts. AreActingBranches (g.W.Env.fixed c.args.world.now).types c.args.scope.now u ts) (g.W.Env.fixed c.args.world.now).types c.args.scope.now (top.form form.If) _ c.as_slice-in-If.result.now _ (λ u r. if_actable (g.W.Env.fixed c.args.world.now).types c.args.scope.now _ u r) (sym (ap core_branch c.in-If.is) ∙ c.core.view_is) c.as_slice-in-If.ensures c.requires.can.0 c.requires.can.1))),
    )

pub node-returns-in-If : goal.node-returns-in-If
node-returns-in-If g t c =
    formulas.formula_is g.W.World.gives _ _ c.args.scope.now _ c.branches.result (top.form form.If) _ c.as_slice-in-If.result.now _ (sym (ap core_branch c.in-If.is) ∙ c.core.view_is) c.as_slice-in-If.ensures c.requires.acts
    (record { attempt = attempt_all _ _ (top.form form.If) _ c.branches.ensures.attempt; scope = c.branches.ensures.scope; keeper = c.branches.ensures.keeper; done = c.branches.ensures.done; cut = c.branches.ensures.cut; fits = λ u r. c.branches.ensures.fits u (if_actable (g.W.Env.fixed c.args.world.now).types c.args.scope.now _ u r) })

pub node-switch-requires : goal.node-switch-requires
node-switch-requires g t c κs within =
    let h = parts_fall _ _ _ _ (sym (ap core_branch c.in-Switch.is) ∙ c.core.view_is) c.as_slice-in-Switch.ensures in (
      omega (arith, h),
      (within.0, (within.1, (c.requires.can.0, heads.parts_found (λ u ts. IsActingSwitch (g.W.Env.fixed c.args.world.now).types c.args.scope.now u ts) (g.W.Env.fixed c.args.world.now).types c.args.scope.now (top.form form.Switch) _ c.as_slice-in-Switch.result.now _ (λ u r. switch_actable (g.W.Env.fixed c.args.world.now).types c.args.scope.now _ u r) (sym (ap core_branch c.in-Switch.is) ∙ c.core.view_is) c.as_slice-in-Switch.ensures c.requires.can.0 c.requires.can.1))),
    )

pub node-returns-in-Switch : goal.node-returns-in-Switch
node-returns-in-Switch g t c =
    formulas.formula_is g.W.World.gives _ _ c.args.scope.now _ c.switch.result (top.form form.Switch) _ c.as_slice-in-Switch.result.now _ (sym (ap core_branch c.in-Switch.is) ∙ c.core.view_is) c.as_slice-in-Switch.ensures c.requires.acts
    (record { attempt = attempt_all _ _ (top.form form.Switch) _ c.switch.ensures.attempt; scope = c.switch.ensures.scope; keeper = c.switch.ensures.keeper; done = c.switch.ensures.done; cut = c.switch.ensures.cut; fits = λ u r. c.switch.ensures.fits u (switch_actable (g.W.Env.fixed c.args.world.now).types c.args.scope.now _ u r) })

pub node-recover-requires : goal.node-recover-requires
node-recover-requires g t c κs within =
    let h = parts_fall _ _ _ _ (sym (ap core_branch c.in-IfError.is) ∙ c.core.view_is) c.as_slice-in-IfError.ensures in (
      omega (arith, h),
      (within.0, (within.1, (c.requires.can.0, heads.parts_found (λ u ts. AreActingRecoveries (g.W.Env.fixed c.args.world.now).types c.args.scope.now u ts) (g.W.Env.fixed c.args.world.now).types c.args.scope.now (top.form form.IfError) _ c.as_slice-in-IfError.result.now _ (λ u r. recover_actable (g.W.Env.fixed c.args.world.now).types c.args.scope.now _ u r) (sym (ap core_branch c.in-IfError.is) ∙ c.core.view_is) c.as_slice-in-IfError.ensures c.requires.can.0 c.requires.can.1))),
    )

pub node-returns-in-IfError : goal.node-returns-in-IfError
node-returns-in-IfError g t c =
    formulas.formula_is g.W.World.gives _ _ c.args.scope.now _ c.recover.result (top.form form.IfError) _ c.as_slice-in-IfError.result.now _ (sym (ap core_branch c.in-IfError.is) ∙ c.core.view_is) c.as_slice-in-IfError.ensures c.requires.acts
    (record { attempt = attempt_all _ _ (top.form form.IfError) _ c.recover.ensures.attempt; scope = c.recover.ensures.scope; keeper = c.recover.ensures.keeper; done = c.recover.ensures.done; cut = c.recover.ensures.cut; fits = λ u r. c.recover.ensures.fits u (recover_actable (g.W.Env.fixed c.args.world.now).types c.args.scope.now _ u r) })

pub node-act_deed-requires : goal.node-act_deed-requires
node-act_deed-requires g t c κs within =
    let h = parts_fall _ _ _ _ (sym (ap core_branch c.in-Act.is) ∙ c.core.view_is) c.as_slice-in-Act.ensures in (
      omega (arith, h),
      (within.0, (within.1, heads.found_at (g.W.Env.fixed c.args.world.now).types c.args.scope.now _ _ (heads.parts_are (top.act c.in-Act.deed) _ c.as_slice-in-Act.result.now _ (sym (ap core_branch c.in-Act.is) ∙ c.core.view_is) c.as_slice-in-Act.ensures) c.requires.can)),
    )

pub node-returns-in-Act : goal.node-returns-in-Act
node-returns-in-Act g t c =
    formulas.formula_is g.W.World.gives _ _ c.args.scope.now _ c.act_deed.result (top.act c.in-Act.deed) _ c.as_slice-in-Act.result.now _ (sym (ap core_branch c.in-Act.is) ∙ c.core.view_is) c.as_slice-in-Act.ensures c.requires.acts
    (record { attempt = c.act_deed.ensures.attempt; scope = c.act_deed.ensures.scope; keeper = c.act_deed.ensures.keeper; done = c.act_deed.ensures.done; cut = c.act_deed.ensures.cut; fits = c.act_deed.ensures.fits })

pub node-perform-requires : goal.node-perform-requires
node-perform-requires g t c κs within =
    let h = one_falls _ _ _ _ (sym (ap core_branch c.in-Dot.is) ∙ c.core.view_is) c.deref-in-Dot.ensures in (
      omega (arith, h),
      (within.0, (within.1, heads.dot_part (g.W.Env.fixed c.args.world.now).types c.args.scope.now _ _ _ _ (sym (ap core_branch c.in-Dot.is) ∙ c.core.view_is) c.deref-in-Dot.ensures c.requires.can)),
    )

pub node-perform-requires-in-Coerce : goal.node-perform-requires-in-Coerce
node-perform-requires-in-Coerce g t c κs within =
    let h = one_falls _ _ _ _ (sym (ap core_branch c.in-Coerce.is) ∙ c.core.view_is) c.deref-in-Coerce.ensures in (
      omega (arith, h),
      (within.0, (within.1, heads.coerce_part (g.W.Env.fixed c.args.world.now).types c.args.scope.now _ _ _ _ (sym (ap core_branch c.in-Coerce.is) ∙ c.core.view_is) c.deref-in-Coerce.ensures c.requires.can)),
    )

pub node-coerce-requires : goal.node-coerce-requires
node-coerce-requires g t c =
    heads.coerce_can (g.W.Env.fixed c.args.world.now).types c.args.scope.now _ _ _ _ (view c.in_ok-value-in-Coerce.value) (sym (ap core_branch c.in-Coerce.is) ∙ c.core.view_is) c.deref-in-Coerce.ensures c.requires.can c.in_ok-value-in-Coerce.ensures.fits

pub node-part_values-requires : goal.node-part_values-requires
node-part_values-requires g t c κs within =
    let h = parts_fall _ _ _ _ (sym (ap core_branch c.in-List.is) ∙ c.core.view_is) c.as_slice-in-List.ensures in
    let k = heads.list_there (g.W.Env.fixed c.args.world.now).types c.args.scope.now _ _ _ _ (sym (ap core_branch c.in-List.is) ∙ c.core.view_is) c.as_slice-in-List.ensures c.requires.can.0 c.requires.can.1 in (
      omega (arith, h),
      (within.0, (within.1, (k.types_of, k.parts))),
    )

pub node-list-requires : goal.node-list-requires
node-list-requires g t c =
    let k = heads.list_there (g.W.Env.fixed c.args.world.now).types c.args.scope.now _ _ _ _ (sym (ap core_branch c.in-List.is) ∙ c.core.view_is) c.as_slice-in-List.ensures c.requires.can.0 c.requires.can.1 in
    can_list _ _ k.types_of k.rows k.same (c.in_ok-values-in-List.ensures.fits k.types_of k.parts)

pub for_all-unreachable-requires : goal.for_all-unreachable-requires
for_all-unreachable-requires g t c =
    formula_there (g.W.Env.fixed c.args.world.now).types c.args.scope.now c.args.table.now c.args.parts.now c.requires.0 c.requires.1 (nil_from_length _ c.in_default.ensures.cases)

pub for_all-perform-requires : goal.for_all-perform-requires
for_all-perform-requires g t c κs within = (
  omega arith,
  (within.0, (within.1, table_can (g.W.Env.fixed c.args.world.now).types c.args.scope.now c.args.table.now c.args.parts.now c.requires.0 c.requires.1 c.in-Some.formula.now _ c.in-Some.ensures.cases.0)),
)

pub for_all-each-requires : goal.for_all-each-requires
for_all-each-requires g t c κs within =
    let k = gone (g.W.Env.fixed c.args.world.now).types c.args.scope.now c.args.table.now c.args.parts.now c.requires.0 c.requires.1 c.in-Some.formula.now _ c.in-Some.ensures.cases.0 (view c.in_ok-value.value) c.in_ok-value.ensures.fits c.in-Ok.rows c.as_slice.result.now c.in-Ok.ensures.0 c.as_slice.ensures in
    let j = steps.first_is_smaller c.args.parts.now c.in-Some.formula.now _ (terms_size (all c.args.parts.now)) c.in-Some.ensures.cases.0 (refl_le (terms_size (all c.args.parts.now))) in (
      omega (arith, j),
      (within.0, (within.1, (k.type, steps.moved (λ f h. IsActableInside f.types h k.type c.in-Some.formula.now c.as_slice.result.now) _ _ _ _ c.perform.ensures.attempt.passed.fixed c.perform.ensures.scope k.inside))),
    )

pub for_all-returns-in-Err-clause-done : goal.for_all-returns-in-Err-clause-done
for_all-returns-in-Err-clause-done g t c =
    subst (λ (ts : List Term). MayFallSilent (SilenceCause (g.W.Env.marks c.args.world.now) (g.W.Env.marks c.perform.new.world)) (λ s u. IsForAll (performing (ground g.W.World.gives (g.W.Env.fixed c.args.world.now)) c.args.table.now ∷ performings (ground g.W.World.gives (g.W.Env.fixed c.args.world.now)) (all ts)) c.args.scope.now s (fault c.in-Err.fault.kind c.in-Err.fault.message) u) (g.W.World.state c.args.world.now) (g.W.World.state c.perform.new.world)) (sym (formula_is (g.W.Env.fixed c.args.world.now).types c.args.scope.now c.args.table.now c.args.parts.now c.requires.0 c.requires.1 c.in-Some.formula.now _ c.in-Some.ensures.cases.0))
    (steps.for_all_fails (ground g.W.World.gives (g.W.Env.fixed c.args.world.now)) c.args.scope.now (SilenceCause (g.W.Env.marks c.args.world.now) (g.W.Env.marks c.perform.new.world)) (g.W.World.state c.args.world.now) (g.W.World.state c.perform.new.world) c.args.table.now (view c.in_ok-value.value) c.in-Err.fault.kind c.in-Err.fault.message c.in-Err.ensures c.in-Some.formula.now c.in_ok-value.ensures.done)

pub update_if-filter_and_change-requires : goal.update_if-filter_and_change-requires
update_if-filter_and_change-requires g t c =
    updated.two_parts (g.W.Env.fixed c.args.world.now).types c.args.scope.now c.args.target c.args.parts.now c.requires.0 c.requires.1

pub update_if-perform-requires : goal.update_if-perform-requires
update_if-perform-requires g t c κs within = (
  let h = updated.two_sizes c.args.parts.now c.filter_and_change.result.0.now c.filter_and_change.result.1.now c.filter_and_change.ensures in omega (arith, h),
  (within.0, (within.1, updated.filter_can (g.W.Env.fixed c.args.world.now).types c.args.scope.now c.args.target c.args.parts.now c.filter_and_change.result.0.now c.filter_and_change.result.1.now c.requires.0 c.filter_and_change.ensures c.requires.1)),
)

pub update_if-returns-in-Err-clause-done : goal.update_if-returns-in-Err-clause-done
update_if-returns-in-Err-clause-done g t c =
    subst (λ (ts : List Term). MayFallSilent (SilenceCause (g.W.Env.marks c.args.world.now) (g.W.Env.marks c.perform.new.world)) (λ s u. IsUpdateIf (ground g.W.World.gives (g.W.Env.fixed c.args.world.now)) c.args.target (performings (ground g.W.World.gives (g.W.Env.fixed c.args.world.now)) (all ts)) c.args.scope.now s (fault c.in-Err.fault.kind c.in-Err.fault.message) u) (g.W.World.state c.args.world.now) (g.W.World.state c.perform.new.world)) (sym c.filter_and_change.ensures)
    (acted.update_fails (ground g.W.World.gives (g.W.Env.fixed c.args.world.now)) c.args.scope.now (SilenceCause (g.W.Env.marks c.args.world.now) (g.W.Env.marks c.perform.new.world)) (g.W.World.state c.args.world.now) (g.W.World.state c.perform.new.world) c.args.target c.filter_and_change.result.0.now c.filter_and_change.result.1.now (view c.in_ok-value.value) c.in-Err.fault.kind c.in-Err.fault.message c.in-Err.ensures c.in_ok-value.ensures.done)

pub act_deed-update_if-requires : goal.act_deed-update_if-requires
act_deed-update_if-requires g t c κs within = (
  omega arith,
  (within.0, (within.1, subst (λ (d : Deed). CanAct (g.W.Env.fixed c.args.world.now).types c.args.scope.now (of (top.act d) (all c.args.parts.now))) c.in-UpdateIf.is c.requires)),
)

pub act_deed-returns-in-UpdateIf-clause-done : goal.act_deed-returns-in-UpdateIf-clause-done
act_deed-returns-in-UpdateIf-clause-done g t c =
    acted.deed_as (ground g.W.World.gives (g.W.Env.fixed c.args.world.now)) c.args.scope.now (performings (ground g.W.World.gives (g.W.Env.fixed c.args.world.now)) (all c.args.parts.now)) (SilenceCause (g.W.Env.marks c.args.world.now) (g.W.Env.marks c.update_if.new.world)) (g.W.World.state c.args.world.now) (g.W.World.state c.update_if.new.world) c.args.deed.now _ c.update_if.result c.in-UpdateIf.is c.update_if.ensures.done

pub act_deed-returns-in-UpdateIf-clause-fits : goal.act_deed-returns-in-UpdateIf-clause-fits
act_deed-returns-in-UpdateIf-clause-fits g t c =
    λ u r.
    let whole : u ≡ booleans = updated.whole_is (g.W.Env.fixed c.args.world.now).types c.args.scope.now _ c.args.parts.now u (subst (λ (d : Deed). IsActable (g.W.Env.fixed c.args.world.now).types c.args.scope.now (of (top.act d) (all c.args.parts.now)) u) c.in-UpdateIf.is r) in
    subst (λ z. IfOk c.update_if.result (λ v. fits_in (view v) z ≡ true)) (sym whole) c.update_if.ensures.fits

pub act_deed-part_values-requires : goal.act_deed-part_values-requires
act_deed-part_values-requires g t c κs within = (
  omega arith,
  (within.0, (within.1, (c.requires.1.typed.0, acted.parts_of_deed (g.W.Env.fixed c.args.world.now).types c.args.scope.now c.args.deed.now c.args.parts.now c.requires.0 (acted.not_updating c.args.deed.now c.in_default.not-UpdateIf) c.requires.1))),
)

pub act_deed-do_deed-requires : goal.act_deed-do_deed-requires
act_deed-do_deed-requires g t c =
    subst (λ (f : Fixed). CanDo f.types c.args.deed.now (map view c.in_ok-values-in_default.values.items)) (sym c.part_values.ensures.attempt.passed.fixed)
    (acted.deed_can (g.W.Env.fixed c.args.world.now).types c.args.scope.now c.args.deed.now c.args.parts.now c.requires.0 (acted.not_updating c.args.deed.now c.in_default.not-UpdateIf) c.requires.1 (map view c.in_ok-values-in_default.values.items) c.in_ok-values-in_default.ensures.fits)

pub node-within-requires : goal.node-within-requires
node-within-requires g t c κs within = (
  let h = nodes.two_fall top.within _ _ _ _ _ (sym (ap core_branch c.in-With.is) ∙ c.core.view_is) c.deref.ensures c.deref-in-With.ensures in omega (arith, h),
  (within.0, (within.1, heads.found_at (g.W.Env.fixed c.args.world.now).types c.args.scope.now _ _ (nodes.two_are top.within _ _ _ _ _ (sym (ap core_branch c.in-With.is) ∙ c.core.view_is) c.deref.ensures c.deref-in-With.ensures) c.requires.can)),
)

pub node-returns-in-With : goal.node-returns-in-With
node-returns-in-With g t c =
    formulas.formula_is g.W.World.gives _ _ c.args.scope.now _ c.within.result top.within (c.deref.result.now ∷ c.deref-in-With.result.now ∷ []) (c.deref.result.now ∷ c.deref-in-With.result.now ∷ []) _ (nodes.two_are top.within _ _ _ _ _ (sym (ap core_branch c.in-With.is) ∙ c.core.view_is) c.deref.ensures c.deref-in-With.ensures) refl c.requires.acts
    (record { attempt = attempt_all _ _ top.within (all (c.deref.result.now ∷ c.deref-in-With.result.now ∷ [])) c.within.ensures.attempt; scope = c.within.ensures.scope; keeper = c.within.ensures.keeper; done = c.within.ensures.done; cut = c.within.ensures.cut; fits = c.within.ensures.fits })

pub node-for_all-requires : goal.node-for_all-requires
node-for_all-requires g t c κs within = (
  let h = table_falls _ _ _ _ _ _ (sym (ap core_branch c.in-Over.is) ∙ c.core.view_is) c.deref-in-Over.ensures c.as_slice-in-Over.ensures in omega (arith, h),
  (within.0, (within.1, heads.found_at (g.W.Env.fixed c.args.world.now).types c.args.scope.now _ _ (nodes.over_is (g.W.Env.fixed c.args.world.now).types c.args.scope.now _ _ c.deref-in-Over.result.now _ c.as_slice-in-Over.result.now _ (sym (ap core_branch c.in-Over.is) ∙ c.core.view_is) c.deref-in-Over.ensures c.as_slice-in-Over.ensures c.requires.can c.requires.acts) c.requires.can)),
)

pub node-returns-in-Over : goal.node-returns-in-Over
node-returns-in-Over g t c =
    formulas.formula_is g.W.World.gives _ _ c.args.scope.now _ c.for_all.result (top.over fun.ForAll) (c.deref-in-Over.result.now ∷ c.as_slice-in-Over.result.now) (c.deref-in-Over.result.now ∷ c.as_slice-in-Over.result.now) _ (nodes.over_is (g.W.Env.fixed c.args.world.now).types c.args.scope.now _ _ c.deref-in-Over.result.now _ c.as_slice-in-Over.result.now _ (sym (ap core_branch c.in-Over.is) ∙ c.core.view_is) c.deref-in-Over.ensures c.as_slice-in-Over.ensures c.requires.can c.requires.acts) refl c.requires.acts
    (record { attempt = attempt_all _ _ (top.over fun.ForAll) (all (c.deref-in-Over.result.now ∷ c.as_slice-in-Over.result.now)) c.for_all.ensures.attempt; scope = c.for_all.ensures.scope; keeper = c.for_all.ensures.keeper; done = c.for_all.ensures.done; cut = c.for_all.ensures.cut; fits = c.for_all.ensures.fits })

pub node-returns-in_ok-field_of-in-Dot-clause-done : goal.node-returns-in_ok-field_of-in-Dot-clause-done
node-returns-in_ok-field_of-in-Dot-clause-done g t c =
    nodes.dot_done (SilenceCause (g.W.Env.marks c.args.world.now) (g.W.Env.marks c.perform.new.world)) (ground g.W.World.gives (g.W.Env.fixed c.args.world.now)) c.args.scope.now (view c.in_ok-value-in-Dot.value) (view c.in_ok-field_of-in-Dot.field-0) (g.W.World.state c.args.world.now) (g.W.World.state c.perform.new.world) _ _ _ _ (sym (ap core_branch c.in-Dot.is) ∙ c.core.view_is) c.deref-in-Dot.ensures c.requires.acts c.in_ok-field_of-in-Dot.ensures c.in_ok-value-in-Dot.ensures.done

pub node-returns-in_ok-field_of-in-Dot-clause-fits : goal.node-returns-in_ok-field_of-in-Dot-clause-fits
node-returns-in_ok-field_of-in-Dot-clause-fits g t c =
    λ u r. nodes.dot_fit (g.W.Env.fixed c.args.world.now).types c.args.scope.now _ u r _ _ _ (sym (ap core_branch c.in-Dot.is) ∙ c.core.view_is) c.deref-in-Dot.ensures (view c.in_ok-value-in-Dot.value) (view c.in_ok-field_of-in-Dot.field-0) c.in_ok-value-in-Dot.ensures.fits c.in_ok-field_of-in-Dot.ensures

pub node-returns-in_ok-coerce-in-Coerce-clause-done : goal.node-returns-in_ok-coerce-in-Coerce-clause-done
node-returns-in_ok-coerce-in-Coerce-clause-done g t c =
    nodes.coerce_done (SilenceCause (g.W.Env.marks c.args.world.now) (g.W.Env.marks c.perform-in-Coerce.new.world)) (ground g.W.World.gives (g.W.Env.fixed c.args.world.now)) c.args.scope.now (view c.in_ok-value-in-Coerce.value) (view c.in_ok-coerce-in-Coerce.field-0) (g.W.World.state c.args.world.now) (g.W.World.state c.perform-in-Coerce.new.world) _ _ _ _ (sym (ap core_branch c.in-Coerce.is) ∙ c.core.view_is) c.deref-in-Coerce.ensures c.requires.acts c.in_ok-coerce-in-Coerce.ensures.value c.in_ok-value-in-Coerce.ensures.done

pub node-returns-in_ok-coerce-in-Coerce-clause-fits : goal.node-returns-in_ok-coerce-in-Coerce-clause-fits
node-returns-in_ok-coerce-in-Coerce-clause-fits g t c =
    λ u r. nodes.coerce_fit (g.W.Env.fixed c.args.world.now).types c.args.scope.now _ u r _ _ _ (sym (ap core_branch c.in-Coerce.is) ∙ c.core.view_is) c.deref-in-Coerce.ensures (view c.in_ok-coerce-in-Coerce.field-0) c.in_ok-coerce-in-Coerce.ensures.fits

pub node-returns-in_ok-list-in-List-clause-done : goal.node-returns-in_ok-list-in-List-clause-done
node-returns-in_ok-list-in-List-clause-done g t c =
    nodes.list_done (SilenceCause (g.W.Env.marks c.args.world.now) (g.W.Env.marks c.part_values.new.world)) (ground g.W.World.gives (g.W.Env.fixed c.args.world.now)) c.args.scope.now (map view c.in_ok-values-in-List.values.items) (view c.in_ok-list-in-List.field-0) (g.W.World.state c.args.world.now) (g.W.World.state c.part_values.new.world) _ _ _ _ (sym (ap core_branch c.in-List.is) ∙ c.core.view_is) c.as_slice-in-List.ensures c.requires.acts c.in_ok-list-in-List.ensures c.in_ok-values-in-List.ensures.done

pub node-returns-in_ok-list-in-List-clause-fits : goal.node-returns-in_ok-list-in-List-clause-fits
node-returns-in_ok-list-in-List-clause-fits g t c =
    λ u r. nodes.list_fit (g.W.Env.fixed c.args.world.now).types c.args.scope.now _ u r _ _ _ (sym (ap core_branch c.in-List.is) ∙ c.core.view_is) c.as_slice-in-List.ensures (map view c.in_ok-values-in-List.values.items) (view c.in_ok-list-in-List.field-0) c.in_ok-values-in-List.ensures.fits c.in_ok-list-in-List.ensures

pub for_all-returns-in_err-values-in-Ok-clause-attempt : goal.for_all-returns-in_err-values-in-Ok-clause-attempt
for_all-returns-in_err-values-in-Ok-clause-attempt g t c = attempt_over _ _ _ (MayWrite c.args.table.now) (MayWrite c.in-Some.formula.now) (AnyMayWrite (cons c.args.table.now (all c.args.parts.now))) (λ x m. inl m) (first_may c.args.parts.now c.in-Some.formula.now _ (AnyMayWrite (cons c.args.table.now (all c.args.parts.now))) c.in-Some.ensures.cases.0 (λ x m. inr m)) c.perform.ensures.attempt c.each.ensures.attempt

pub update_if-returns-in_err-changes-in-Ok-clause-attempt : goal.update_if-returns-in_err-changes-in-Ok-clause-attempt
update_if-returns-in_err-changes-in-Ok-clause-attempt g t c = attempt_over _ _ _ (MayWrite c.filter_and_change.result.0.now) (MayWrite c.filter_and_change.result.1.now) (MayWrite (of (top.act (deed.UpdateIf c.args.target)) (all c.args.parts.now))) (first_may c.args.parts.now c.filter_and_change.result.0.now (c.filter_and_change.result.1.now ∷ []) (MayWrite (of (top.act (deed.UpdateIf c.args.target)) (all c.args.parts.now))) c.filter_and_change.ensures (λ x m. inr m)) (first_may (c.filter_and_change.result.1.now ∷ []) c.filter_and_change.result.1.now [] (MayWrite (of (top.act (deed.UpdateIf c.args.target)) (all c.args.parts.now))) refl (others_may c.args.parts.now c.filter_and_change.result.0.now (c.filter_and_change.result.1.now ∷ []) (MayWrite (of (top.act (deed.UpdateIf c.args.target)) (all c.args.parts.now))) c.filter_and_change.ensures (λ x m. inr m))) c.perform.ensures.attempt c.each.ensures.attempt

pub node-unreachable-requires : goal.node-unreachable-requires
node-unreachable-requires g t c = other c.core.inside.node refl
  where
    other : (m : CoreNode) → c.core.inside.node ≡ m → ⊥
    other (kind.Chain ps) e = c.in_default.not-Chain ps e
    other (kind.Act d ps) e = c.in_default.not-Act d ps e
    other (kind.If ps) e = c.in_default.not-If ps e
    other (kind.Switch ps) e = c.in_default.not-Switch ps e
    other (kind.IfError ps) e = c.in_default.not-IfError ps e
    other (kind.With a b) e = c.in_default.not-With a b e
    other (kind.Dot a n) e = c.in_default.not-Dot a n e
    other (kind.Coerce a q) e = c.in_default.not-Coerce a q e
    other (kind.List q ps) e = c.in_default.not-List q ps e
    other (kind.Over f a ps) e = c.in_default.not-Over f a ps e
    other (kind.Const v) e = nodes.no_place (g.W.Env.fixed c.args.world.now).types c.args.scope.now _ _ _ (sym (ap core_branch e) ∙ c.core.view_is) refl c.requires.can c.requires.acts
    other (kind.Read s) e = nodes.no_place (g.W.Env.fixed c.args.world.now).types c.args.scope.now _ _ _ (sym (ap core_branch e) ∙ c.core.view_is) refl c.requires.can c.requires.acts
    other (kind.Row k) e = nodes.no_place (g.W.Env.fixed c.args.world.now).types c.args.scope.now _ _ _ (sym (ap core_branch e) ∙ c.core.view_is) refl c.requires.can c.requires.acts
    other kind.Item e = nodes.no_place (g.W.Env.fixed c.args.world.now).types c.args.scope.now _ _ _ (sym (ap core_branch e) ∙ c.core.view_is) refl c.requires.can c.requires.acts
    other kind.Caught e = nodes.no_place (g.W.Env.fixed c.args.world.now).types c.args.scope.now _ _ _ (sym (ap core_branch e) ∙ c.core.view_is) refl c.requires.can c.requires.acts
    other (kind.Call f ps) e = nodes.no_place (g.W.Env.fixed c.args.world.now).types c.args.scope.now _ _ _ (sym (ap core_branch e) ∙ c.core.view_is) refl c.requires.can c.requires.acts
    other (kind.User f ps) e = nodes.no_place (g.W.Env.fixed c.args.world.now).types c.args.scope.now _ _ _ (sym (ap core_branch e) ∙ c.core.view_is) refl c.requires.can c.requires.acts
    other (kind.Rec fs) e = nodes.no_place (g.W.Env.fixed c.args.world.now).types c.args.scope.now _ _ _ (sym (ap core_branch e) ∙ c.core.view_is) refl c.requires.can c.requires.acts
    other (kind.All ps) e = nodes.no_place (g.W.Env.fixed c.args.world.now).types c.args.scope.now _ _ _ (sym (ap core_branch e) ∙ c.core.view_is) refl c.requires.can c.requires.acts
    other (kind.Any ps) e = nodes.no_place (g.W.Env.fixed c.args.world.now).types c.args.scope.now _ _ _ (sym (ap core_branch e) ∙ c.core.view_is) refl c.requires.can c.requires.acts

pub within-perform-requires : goal.within-perform-requires
within-perform-requires g t c κs within = (
  omega arith,
  (within.0, (within.1, (c.requires.1.typed.1.0, record_actable (g.W.Env.fixed c.args.world.now).types c.args.scope.now c.args.part.now c.args.formula.now c.requires.0 c.requires.1))),
)

pub within-in_scope-requires : goal.within-in_scope-requires
within-in_scope-requires g t c κs within = (
  omega arith,
  (within.0, (within.1, (c.requires.0, steps.moved (λ f h. IsActable f.types (inner h (view c.in-Ok.row)) c.args.formula.now c.requires.0) _ _ _ _ c.perform.ensures.attempt.passed.fixed c.perform.ensures.scope (subst (λ z. IsActable (g.W.Env.fixed c.args.world.now).types (inner c.args.scope.now z) c.args.formula.now c.requires.0) (sym c.in-Ok.ensures.0) (formula_actable (g.W.Env.fixed c.args.world.now).types c.args.scope.now c.args.part.now c.args.formula.now c.requires.0 c.requires.1 (view c.in_ok-value.value) c.in_ok-value.ensures.fits))))),
)

pub within-returns-in-Ok-clause-attempt : goal.within-returns-in-Ok-clause-attempt
within-returns-in-Ok-clause-attempt g t c = attempt_over _ _ _ (MayWrite c.args.part.now) (MayWrite c.args.formula.now) (AnyMayWrite (cons c.args.part.now (cons c.args.formula.now nil))) (λ x m. inl m) (λ x m. inr (inl m)) c.perform.ensures.attempt c.in_scope.ensures.attempt

pub within-returns-in-Ok-clause-done : goal.within-returns-in-Ok-clause-done
within-returns-in-Ok-clause-done g t c =
    IfOk-weaker c.in_scope.result _ _
    (λ v k. steps.within_goes (ground g.W.World.gives (g.W.Env.fixed c.args.world.now)) c.args.scope.now _ _ _ _ _ _ c.args.part.now (view c.in_ok-value.value) c.perform.ensures.attempt.passed.later c.in_scope.ensures.attempt.passed.later c.in-Ok.ensures.1 c.args.formula.now (view v) c.in_ok-value.ensures.done
    (subst (λ z. MayFallSilent (SilenceCause (g.W.Env.marks c.perform.new.world) (g.W.Env.marks c.in_scope.new.world)) (λ s u. Performs (ground g.W.World.gives (g.W.Env.fixed c.args.world.now)) c.args.formula.now (inner c.args.scope.now z) (view v) s u) (g.W.World.state c.perform.new.world) (g.W.World.state c.in_scope.new.world)) c.in-Ok.ensures.0
    (steps.back (λ f h. MayFallSilent (SilenceCause (g.W.Env.marks c.perform.new.world) (g.W.Env.marks c.in_scope.new.world)) (λ s u. Performs (ground g.W.World.gives f) c.args.formula.now (inner h (view c.in-Ok.row)) (view v) s u) (g.W.World.state c.perform.new.world) (g.W.World.state c.in_scope.new.world)) _ _ _ _ c.perform.ensures.attempt.passed.fixed c.perform.ensures.scope k)))
    c.in_scope.ensures.done

pub within-returns-in-Ok-clause-fits : goal.within-returns-in-Ok-clause-fits
within-returns-in-Ok-clause-fits g t c =
    λ u r. c.in_scope.ensures.fits u (steps.moved (λ f h. IsActable f.types (inner h (view c.in-Ok.row)) c.args.formula.now u) _ _ _ _ c.perform.ensures.attempt.passed.fixed c.perform.ensures.scope (subst (λ z. IsActable (g.W.Env.fixed c.args.world.now).types (inner c.args.scope.now z) c.args.formula.now u) (sym c.in-Ok.ensures.0) (formula_actable (g.W.Env.fixed c.args.world.now).types c.args.scope.now c.args.part.now c.args.formula.now u r (view c.in_ok-value.value) c.in_ok-value.ensures.fits)))

pub within-returns-in-Err-clause-done : goal.within-returns-in-Err-clause-done
within-returns-in-Err-clause-done g t c =
    steps.within_fails (ground g.W.World.gives (g.W.Env.fixed c.args.world.now)) c.args.scope.now (SilenceCause (g.W.Env.marks c.args.world.now) (g.W.Env.marks c.perform.new.world)) (g.W.World.state c.args.world.now) (g.W.World.state c.perform.new.world) c.args.part.now (view c.in_ok-value.value) c.in-Err.fault.kind c.in-Err.fault.message c.in-Err.ensures c.args.formula.now c.in_ok-value.ensures.done

pub perform-evaluate-requires : goal.perform-evaluate-requires
perform-evaluate-requires g t c =
    (c.requires.0, quiet_ready (g.W.Env.fixed c.args.world.now).types c.args.scope.now c.args.core.now c.requires.0 (sym c.acts.ensures ∙ c.if-acts.false) c.requires.1)

pub perform-returns-else-acts-clause-fits : goal.perform-returns-else-acts-clause-fits
perform-returns-else-acts-clause-fits g t c =
    λ u r. c.evaluate.ensures.fits u (quiet_ready (g.W.Env.fixed c.args.world.now).types c.args.scope.now c.args.core.now u (sym c.acts.ensures ∙ c.if-acts.false) r)

pub switch-unreachable-requires : goal.switch-unreachable-requires
switch-unreachable-requires g t c =
    left.switch_there (g.W.Env.fixed c.args.world.now).types c.args.scope.now c.requires.0 c.args.parts.now (nil_from_length _ c.in_default.ensures.cases) c.requires.1

pub switch-perform-requires : goal.switch-perform-requires
switch-perform-requires g t c κs within =
    let j = steps.first_is_smaller c.args.parts.now c.in-Some.part.now c.in-Some.others.now (terms_size (all c.args.parts.now)) c.in-Some.ensures.cases.0 (refl_le (terms_size (all c.args.parts.now))) in (
      omega (arith, j),
      (within.0, (within.1, left.switch_first (g.W.Env.fixed c.args.world.now).types c.args.scope.now c.requires.0 c.in-Some.part.now c.in-Some.others.now c.args.parts.now c.in-Some.ensures.cases.0 c.requires.1)),
    )

pub switch-matches-requires : goal.switch-matches-requires
switch-matches-requires g t c κs within =
    let j = steps.first_is_smaller c.args.parts.now c.in-Some.part.now c.in-Some.others.now (terms_size (all c.args.parts.now)) c.in-Some.ensures.cases.0 (refl_le (terms_size (all c.args.parts.now))) in (
      omega (arith, j),
      (within.0, (within.1, (c.requires.0, steps.moved (λ f h. IsMatchedBy f.types h (view c.in-Ok.wanted) c.requires.0 c.in-Some.others.now) _ _ _ _ c.perform.ensures.attempt.passed.fixed c.perform.ensures.scope (left.switch_matched (g.W.Env.fixed c.args.world.now).types c.args.scope.now c.requires.0 c.in-Some.part.now c.in-Some.others.now c.args.parts.now (view c.in_ok-value.value) (view c.in-Ok.wanted) c.in-Some.ensures.cases.0 c.requires.1 c.in-Ok.ensures.0 c.in-Ok.ensures.1 c.in_ok-value.ensures.fits)))),
    )

pub switch-returns-in-Ok-clause-attempt : goal.switch-returns-in-Ok-clause-attempt
switch-returns-in-Ok-clause-attempt g t c = attempt_over _ _ _ (MayWrite c.in-Some.part.now) (AnyMayWrite (all c.in-Some.others.now)) (AnyMayWrite (all c.args.parts.now)) (first_may c.args.parts.now c.in-Some.part.now c.in-Some.others.now (AnyMayWrite (all c.args.parts.now)) c.in-Some.ensures.cases.0 (λ x m. m)) (others_may c.args.parts.now c.in-Some.part.now c.in-Some.others.now (AnyMayWrite (all c.args.parts.now)) c.in-Some.ensures.cases.0 (λ x m. m)) c.perform.ensures.attempt c.matches.ensures.attempt

pub switch-returns-in-Ok-clause-done : goal.switch-returns-in-Ok-clause-done
switch-returns-in-Ok-clause-done g t c =
    IfOk-weaker c.matches.result _ _
    (λ v k. subst (λ (ts : List Term). MayFallSilent (SilenceCause (g.W.Env.marks c.args.world.now) (g.W.Env.marks c.matches.new.world)) (λ s u. PerformsSwitch (performings (ground g.W.World.gives (g.W.Env.fixed c.args.world.now)) (all ts)) c.args.scope.now s (view v) u) (g.W.World.state c.args.world.now) (g.W.World.state c.matches.new.world)) (sym c.in-Some.ensures.cases.0)
    (steps.switch_goes (ground g.W.World.gives (g.W.Env.fixed c.args.world.now)) c.args.scope.now _ _ _ _ _ _ c.in-Some.part.now (view c.in_ok-value.value) c.perform.ensures.attempt.passed.later c.matches.ensures.attempt.passed.later c.in-Ok.ensures.1 c.in-Some.others.now (view v) c.in_ok-value.ensures.done
    (subst (λ z. MayFallSilent (SilenceCause (g.W.Env.marks c.perform.new.world) (g.W.Env.marks c.matches.new.world)) (λ s u. IsBranched (switch_decision z) (performings (ground g.W.World.gives (g.W.Env.fixed c.args.world.now)) (all c.in-Some.others.now)) c.args.scope.now s (view v) u) (g.W.World.state c.perform.new.world) (g.W.World.state c.matches.new.world)) c.in-Ok.ensures.0
    (steps.back (λ f h. MayFallSilent (SilenceCause (g.W.Env.marks c.perform.new.world) (g.W.Env.marks c.matches.new.world)) (λ s u. IsBranched (switch_decision (view c.in-Ok.wanted)) (performings (ground g.W.World.gives f) (all c.in-Some.others.now)) h s (view v) u) (g.W.World.state c.perform.new.world) (g.W.World.state c.matches.new.world)) _ _ _ _ c.perform.ensures.attempt.passed.fixed c.perform.ensures.scope k))))
    c.matches.ensures.done

pub switch-returns-in-Ok-clause-fits : goal.switch-returns-in-Ok-clause-fits
switch-returns-in-Ok-clause-fits g t c =
    λ u r. c.matches.ensures.fits u (steps.moved (λ f h. IsMatchedBy f.types h (view c.in-Ok.wanted) u c.in-Some.others.now) _ _ _ _ c.perform.ensures.attempt.passed.fixed c.perform.ensures.scope (left.switch_matched (g.W.Env.fixed c.args.world.now).types c.args.scope.now u c.in-Some.part.now c.in-Some.others.now c.args.parts.now (view c.in_ok-value.value) (view c.in-Ok.wanted) c.in-Some.ensures.cases.0 r c.in-Ok.ensures.0 c.in-Ok.ensures.1 c.in_ok-value.ensures.fits))

pub switch-returns-in-Err-clause-done : goal.switch-returns-in-Err-clause-done
switch-returns-in-Err-clause-done g t c =
    subst (λ (ts : List Term). MayFallSilent (SilenceCause (g.W.Env.marks c.args.world.now) (g.W.Env.marks c.perform.new.world)) (λ s u. PerformsSwitch (performings (ground g.W.World.gives (g.W.Env.fixed c.args.world.now)) (all ts)) c.args.scope.now s (fault c.in-Err.fault.kind c.in-Err.fault.message) u) (g.W.World.state c.args.world.now) (g.W.World.state c.perform.new.world)) (sym c.in-Some.ensures.cases.0)
    (steps.switch_fails (ground g.W.World.gives (g.W.Env.fixed c.args.world.now)) c.args.scope.now (SilenceCause (g.W.Env.marks c.args.world.now) (g.W.Env.marks c.perform.new.world)) (g.W.World.state c.args.world.now) (g.W.World.state c.perform.new.world) c.in-Some.part.now (view c.in_ok-value.value) c.in-Err.fault.kind c.in-Err.fault.message c.in-Err.ensures c.in-Some.others.now c.in_ok-value.ensures.done)

pub branches-perform-requires : goal.branches-perform-requires
branches-perform-requires g t c κs within =
    let j = steps.first_is_smaller c.loop-part.rest.now c.in-Some.part.now c.in-Some.others.now (terms_size (all c.args.parts.now)) c.in-Some.ensures.cases.0 c.loop-part.invariant.small in (
      omega (arith, j),
      (within.0, (within.1, steps.moved (λ f h. CanAct f.types h c.in-Some.part.now) _ _ _ _ c.loop-part.invariant.attempt.passed.fixed c.loop-part.invariant.scope (left.branch_first (g.W.Env.fixed c.args.world.now).types c.args.scope.now c.requires.0 c.in-Some.part.now c.in-Some.others.now c.loop-part.rest.now c.in-Some.ensures.cases.0 (c.loop-part.invariant.fits c.requires.0 c.requires.1)))),
    )

pub branches-perform-requires-in-Some : goal.branches-perform-requires-in-Some
branches-perform-requires-in-Some g t c κs within =
    let j = steps.first_is_smaller c.loop-part.rest.now c.in-Some.part.now c.in-Some.others.now (terms_size (all c.args.parts.now)) c.in-Some.ensures.cases.0 c.loop-part.invariant.small in (
      omega (arith, j),
      (within.0, (within.1, steps.moved (λ f h. CanAct f.types h c.in-Some.part.now) _ _ _ _ c.loop-part.invariant.attempt.passed.fixed c.loop-part.invariant.scope (left.branch_first (g.W.Env.fixed c.args.world.now).types c.args.scope.now c.requires.0 c.in-Some.part.now c.in-Some.others.now c.loop-part.rest.now c.in-Some.ensures.cases.0 (c.loop-part.invariant.fits c.requires.0 c.requires.1)))),
    )

pub branches-returns-in_default-split_first-clause-attempt : goal.branches-returns-in_default-split_first-clause-attempt
branches-returns-in_default-split_first-clause-attempt g t c = attempt_next _ _ _ (AnyMayWrite (all c.args.parts.now)) (MayWrite c.in-Some.part.now) (first_may c.loop-part.rest.now c.in-Some.part.now c.in-Some.others.now (AnyMayWrite (all c.args.parts.now)) c.in-Some.ensures.cases.0 c.loop-part.invariant.allowed) c.loop-part.invariant.attempt c.perform.ensures.attempt

pub branches-returns-in_default-split_first-clause-done : goal.branches-returns-in_default-split_first-clause-done
branches-returns-in_default-split_first-clause-done g t c =
    IfOk-weaker c.perform.result _ _
    (λ v k. steps.branch_ends g.W.World.gives _ _ _ _ _ _ _ _ _ _ (steps.branches_of decision_of (ground g.W.World.gives (g.W.Env.fixed c.args.world.now)) c.args.scope.now c.args.parts.now) c.in-Some.part.now c.in-Some.others.now c.loop-part.rest.now (view v) c.loop-part.invariant.attempt.passed.fixed c.loop-part.invariant.scope c.loop-part.invariant.attempt.passed.later c.perform.ensures.attempt.passed.later c.in-Some.ensures.cases.0 decision_of (nil_from_length _ c.in_default-split_first.ensures.cases) c.loop-part.invariant.done k)
    c.perform.ensures.done

pub branches-returns-in_default-split_first-clause-fits : goal.branches-returns-in_default-split_first-clause-fits
branches-returns-in_default-split_first-clause-fits g t c =
    λ u r. c.perform.ensures.fits u (steps.moved (λ f h. IsActable f.types h c.in-Some.part.now u) _ _ _ _ c.loop-part.invariant.attempt.passed.fixed c.loop-part.invariant.scope (left.branch_last (g.W.Env.fixed c.args.world.now).types c.args.scope.now u c.in-Some.part.now c.in-Some.others.now c.loop-part.rest.now c.in-Some.ensures.cases.0 (nil_from_length _ c.in_default-split_first.ensures.cases) (c.loop-part.invariant.fits u r)))

pub branches-returns-in_err-value-clause-attempt : goal.branches-returns-in_err-value-clause-attempt
branches-returns-in_err-value-clause-attempt g t c = attempt_next _ _ _ (AnyMayWrite (all c.args.parts.now)) (MayWrite c.in-Some.part.now) (first_may c.loop-part.rest.now c.in-Some.part.now c.in-Some.others.now (AnyMayWrite (all c.args.parts.now)) c.in-Some.ensures.cases.0 c.loop-part.invariant.allowed) c.loop-part.invariant.attempt c.perform-in-Some.ensures.attempt

pub branches-perform-requires-in-Met : goal.branches-perform-requires-in-Met
branches-perform-requires-in-Met g t c κs within =
    let j = steps.first_is_smaller c.loop-part.rest.now c.in-Some.part.now c.in-Some.others.now (terms_size (all c.args.parts.now)) c.in-Some.ensures.cases.0 c.loop-part.invariant.small in
    let i = steps.first_is_smaller c.in-Some.others.now c.in-Some-split_first.branch.now c.in-Some-split_first.beyond.now (terms_size (all c.in-Some.others.now)) c.in-Some-split_first.ensures.cases.0 (refl_le (terms_size (all c.in-Some.others.now))) in (
      omega (arith, i, j),
      (within.0, (within.1, (c.requires.0, steps.moved (λ f h. IsActable f.types h c.in-Some-split_first.branch.now c.requires.0) _ _ _ _ (c.perform-in-Some.ensures.attempt.passed.fixed ∙ c.loop-part.invariant.attempt.passed.fixed) (c.perform-in-Some.ensures.scope ∙ c.loop-part.invariant.scope) (left.branch_chosen (g.W.Env.fixed c.args.world.now).types c.args.scope.now c.requires.0 c.in-Some.part.now c.in-Some-split_first.branch.now c.in-Some.others.now c.in-Some-split_first.beyond.now c.loop-part.rest.now c.in-Some.ensures.cases.0 c.in-Some-split_first.ensures.cases.0 (c.loop-part.invariant.fits c.requires.0 c.requires.1))))),
    )

pub branches-returns-in-Met-clause-attempt : goal.branches-returns-in-Met-clause-attempt
branches-returns-in-Met-clause-attempt g t c = attempt_next _ _ _ (AnyMayWrite (all c.args.parts.now)) (MayWrite c.in-Some-split_first.branch.now) (first_may c.in-Some.others.now c.in-Some-split_first.branch.now c.in-Some-split_first.beyond.now (AnyMayWrite (all c.args.parts.now)) c.in-Some-split_first.ensures.cases.0 (others_may c.loop-part.rest.now c.in-Some.part.now c.in-Some.others.now (AnyMayWrite (all c.args.parts.now)) c.in-Some.ensures.cases.0 c.loop-part.invariant.allowed)) (attempt_next _ _ _ (AnyMayWrite (all c.args.parts.now)) (MayWrite c.in-Some.part.now) (first_may c.loop-part.rest.now c.in-Some.part.now c.in-Some.others.now (AnyMayWrite (all c.args.parts.now)) c.in-Some.ensures.cases.0 c.loop-part.invariant.allowed) c.loop-part.invariant.attempt c.perform-in-Some.ensures.attempt) c.perform-in-Met.ensures.attempt

pub branches-returns-in-Met-clause-done : goal.branches-returns-in-Met-clause-done
branches-returns-in-Met-clause-done g t c =
    IfOk-weaker c.perform-in-Met.result _ _
    (λ v k. steps.branch_done g.W.World.gives _ _ _ _ _ _ _ _ _ _ (steps.branches_of decision_of (ground g.W.World.gives (g.W.Env.fixed c.args.world.now)) c.args.scope.now c.args.parts.now) c.in-Some-split_first.branch.now (view v) (c.perform-in-Some.ensures.attempt.passed.fixed ∙ c.loop-part.invariant.attempt.passed.fixed) (c.perform-in-Some.ensures.scope ∙ c.loop-part.invariant.scope) (passed_on _ _ _ c.loop-part.invariant.attempt.passed c.perform-in-Some.ensures.attempt.passed).later c.perform-in-Met.ensures.attempt.passed.later
    (steps.branch_met g.W.World.gives _ _ _ _ _ _ _ _ _ _ (steps.branches_of decision_of (ground g.W.World.gives (g.W.Env.fixed c.args.world.now)) c.args.scope.now c.args.parts.now) c.in-Some.part.now c.in-Some.others.now c.loop-part.rest.now (view c.in_ok-value.value) c.loop-part.invariant.attempt.passed.fixed c.loop-part.invariant.scope c.loop-part.invariant.attempt.passed.later c.perform-in-Some.ensures.attempt.passed.later c.in-Some.ensures.cases.0 decision_of c.in-Some-split_first.branch.now c.in-Some-split_first.beyond.now c.in-Some-split_first.ensures.cases.0 (sym c.decide.ensures ∙ c.in-Met.is) c.loop-part.invariant.done c.in_ok-value.ensures.done) k)
    c.perform-in-Met.ensures.done

pub branches-returns-in-Met-clause-fits : goal.branches-returns-in-Met-clause-fits
branches-returns-in-Met-clause-fits g t c =
    λ u r. c.perform-in-Met.ensures.fits u (steps.moved (λ f h. IsActable f.types h c.in-Some-split_first.branch.now u) _ _ _ _ (c.perform-in-Some.ensures.attempt.passed.fixed ∙ c.loop-part.invariant.attempt.passed.fixed) (c.perform-in-Some.ensures.scope ∙ c.loop-part.invariant.scope) (left.branch_chosen (g.W.Env.fixed c.args.world.now).types c.args.scope.now u c.in-Some.part.now c.in-Some-split_first.branch.now c.in-Some.others.now c.in-Some-split_first.beyond.now c.loop-part.rest.now c.in-Some.ensures.cases.0 c.in-Some-split_first.ensures.cases.0 (c.loop-part.invariant.fits u r)))

pub branches-loop-part-preserved : goal.branches-loop-part-preserved
branches-loop-part-preserved g t c =
    record {
      attempt = attempt_next _ _ _ (AnyMayWrite (all c.args.parts.now)) (MayWrite c.in-Some.part.now) (first_may c.loop-part.rest.now c.in-Some.part.now c.in-Some.others.now (AnyMayWrite (all c.args.parts.now)) c.in-Some.ensures.cases.0 c.loop-part.invariant.allowed) c.loop-part.invariant.attempt c.perform-in-Some.ensures.attempt;
      allowed = others_may c.in-Some.others.now c.in-Some-split_first.branch.now c.in-Some-split_first.beyond.now (AnyMayWrite (all c.args.parts.now)) c.in-Some-split_first.ensures.cases.0 (others_may c.loop-part.rest.now c.in-Some.part.now c.in-Some.others.now (AnyMayWrite (all c.args.parts.now)) c.in-Some.ensures.cases.0 c.loop-part.invariant.allowed);
      scope = c.perform-in-Some.ensures.scope ∙ c.loop-part.invariant.scope;
      fits = λ u r. left.branch_beyond (g.W.Env.fixed c.args.world.now).types c.args.scope.now u c.in-Some.part.now c.in-Some-split_first.branch.now c.in-Some.others.now c.in-Some-split_first.beyond.now c.loop-part.rest.now c.in-Some.ensures.cases.0 c.in-Some-split_first.ensures.cases.0 (c.loop-part.invariant.fits u r);
      done = steps.branch_unmet g.W.World.gives _ _ _ _ _ _ _ _ _ _ (steps.branches_of decision_of (ground g.W.World.gives (g.W.Env.fixed c.args.world.now)) c.args.scope.now c.args.parts.now) c.in-Some.part.now c.in-Some.others.now c.loop-part.rest.now (view c.in_ok-value.value) c.loop-part.invariant.attempt.passed.fixed c.loop-part.invariant.scope c.loop-part.invariant.attempt.passed.later c.perform-in-Some.ensures.attempt.passed.later c.in-Some.ensures.cases.0 decision_of c.in-Some-split_first.branch.now c.in-Some-split_first.beyond.now c.in-Some-split_first.ensures.cases.0 (sym c.decide.ensures ∙ c.in-Unmet.is) c.loop-part.invariant.done c.in_ok-value.ensures.done;
      small = let j = steps.first_is_smaller c.loop-part.rest.now c.in-Some.part.now c.in-Some.others.now (terms_size (all c.args.parts.now)) c.in-Some.ensures.cases.0 c.loop-part.invariant.small in
          let i = steps.first_is_smaller c.in-Some.others.now c.in-Some-split_first.branch.now c.in-Some-split_first.beyond.now (terms_size (all c.in-Some.others.now)) c.in-Some-split_first.ensures.cases.0 (refl_le (terms_size (all c.in-Some.others.now))) in
          omega (arith, i, j);
      cut = cutting.branch_unmet g.W.World.gives _ _ _ _ _ _ _ _ _ _ (cutting.branches_left decision_of (ground g.W.World.gives (g.W.Env.fixed c.args.world.now)) c.args.scope.now c.args.parts.now) c.in-Some.part.now c.in-Some.others.now c.loop-part.rest.now c.loop-part.invariant.attempt.passed.fixed c.loop-part.invariant.scope c.loop-part.invariant.attempt.passed.later c.perform-in-Some.ensures.attempt.passed.later c.in-Some.ensures.cases.0 (view c.in_ok-value.value) decision_of c.in-Some-split_first.branch.now c.in-Some-split_first.beyond.now c.in-Some-split_first.ensures.cases.0 (sym c.decide.ensures ∙ c.in-Unmet.is) c.loop-part.invariant.cut c.in_ok-value.ensures.done;
    }

pub branches-returns-in-Error-clause-attempt : goal.branches-returns-in-Error-clause-attempt
branches-returns-in-Error-clause-attempt g t c = attempt_next _ _ _ (AnyMayWrite (all c.args.parts.now)) (MayWrite c.in-Some.part.now) (first_may c.loop-part.rest.now c.in-Some.part.now c.in-Some.others.now (AnyMayWrite (all c.args.parts.now)) c.in-Some.ensures.cases.0 c.loop-part.invariant.allowed) c.loop-part.invariant.attempt c.perform-in-Some.ensures.attempt

pub branches-returns-in-Error-clause-done : goal.branches-returns-in-Error-clause-done
branches-returns-in-Error-clause-done g t c =
    steps.branch_fails g.W.World.gives _ _ _ _ _ _ _ _ _ _ (steps.branches_of decision_of (ground g.W.World.gives (g.W.Env.fixed c.args.world.now)) c.args.scope.now c.args.parts.now) c.in-Some.part.now c.in-Some.others.now c.loop-part.rest.now (view c.in_ok-value.value) c.loop-part.invariant.attempt.passed.fixed c.loop-part.invariant.scope c.loop-part.invariant.attempt.passed.later c.perform-in-Some.ensures.attempt.passed.later c.in-Some.ensures.cases.0 decision_of c.in-Some-split_first.branch.now c.in-Some-split_first.beyond.now c.in-Some-split_first.ensures.cases.0 c.in-Error.fault (sym c.decide.ensures ∙ c.in-Error.is) c.loop-part.invariant.done c.in_ok-value.ensures.done

pub branches-returns-clause-done : goal.branches-returns-clause-done
branches-returns-clause-done g t c =
    steps.branch_none decision_of (ground g.W.World.gives (g.W.Env.fixed c.args.world.now)) c.args.scope.now (SilenceCause (g.W.Env.marks c.args.world.now) (g.W.Env.marks c.loop-part.world)) (g.W.World.state c.args.world.now) (g.W.World.state c.loop-part.world) (steps.branches_of decision_of (ground g.W.World.gives (g.W.Env.fixed c.args.world.now)) c.args.scope.now c.args.parts.now) c.loop-part.rest.now (nil_from_length _ c.in_default.ensures.cases) c.loop-part.invariant.done

pub matches-perform-requires : goal.matches-perform-requires
matches-perform-requires g t c κs within =
    let j = steps.first_is_smaller c.loop-part.rest.now c.in-Some.part.now c.in-Some.others.now (terms_size (all c.args.parts.now)) c.in-Some.ensures.cases.0 c.loop-part.invariant.small in (
      omega (arith, j),
      (within.0, (within.1, steps.moved (λ f h. CanAct f.types h c.in-Some.part.now) _ _ _ _ c.loop-part.invariant.attempt.passed.fixed c.loop-part.invariant.scope (left.match_first (g.W.Env.fixed c.args.world.now).types c.args.scope.now (view c.args.wanted) c.requires.0 c.in-Some.part.now c.in-Some.others.now c.loop-part.rest.now c.in-Some.ensures.cases.0 (c.loop-part.invariant.fits c.requires.0 c.requires.1)))),
    )

pub matches-perform-requires-in-Some : goal.matches-perform-requires-in-Some
matches-perform-requires-in-Some g t c κs within =
    let j = steps.first_is_smaller c.loop-part.rest.now c.in-Some.part.now c.in-Some.others.now (terms_size (all c.args.parts.now)) c.in-Some.ensures.cases.0 c.loop-part.invariant.small in (
      omega (arith, j),
      (within.0, (within.1, steps.moved (λ f h. CanAct f.types h c.in-Some.part.now) _ _ _ _ c.loop-part.invariant.attempt.passed.fixed c.loop-part.invariant.scope (left.match_first (g.W.Env.fixed c.args.world.now).types c.args.scope.now (view c.args.wanted) c.requires.0 c.in-Some.part.now c.in-Some.others.now c.loop-part.rest.now c.in-Some.ensures.cases.0 (c.loop-part.invariant.fits c.requires.0 c.requires.1)))),
    )

pub matches-returns-in_default-split_first-clause-attempt : goal.matches-returns-in_default-split_first-clause-attempt
matches-returns-in_default-split_first-clause-attempt g t c = attempt_next _ _ _ (AnyMayWrite (all c.args.parts.now)) (MayWrite c.in-Some.part.now) (first_may c.loop-part.rest.now c.in-Some.part.now c.in-Some.others.now (AnyMayWrite (all c.args.parts.now)) c.in-Some.ensures.cases.0 c.loop-part.invariant.allowed) c.loop-part.invariant.attempt c.perform.ensures.attempt

pub matches-returns-in_default-split_first-clause-done : goal.matches-returns-in_default-split_first-clause-done
matches-returns-in_default-split_first-clause-done g t c =
    IfOk-weaker c.perform.result _ _
    (λ v k. steps.branch_ends g.W.World.gives _ _ _ _ _ _ _ _ _ _ (steps.branches_of (switch_decision (view c.args.wanted)) (ground g.W.World.gives (g.W.Env.fixed c.args.world.now)) c.args.scope.now c.args.parts.now) c.in-Some.part.now c.in-Some.others.now c.loop-part.rest.now (view v) c.loop-part.invariant.attempt.passed.fixed c.loop-part.invariant.scope c.loop-part.invariant.attempt.passed.later c.perform.ensures.attempt.passed.later c.in-Some.ensures.cases.0 (switch_decision (view c.args.wanted)) (nil_from_length _ c.in_default-split_first.ensures.cases) c.loop-part.invariant.done k)
    c.perform.ensures.done

pub matches-returns-in_default-split_first-clause-fits : goal.matches-returns-in_default-split_first-clause-fits
matches-returns-in_default-split_first-clause-fits g t c =
    λ u r. c.perform.ensures.fits u (steps.moved (λ f h. IsActable f.types h c.in-Some.part.now u) _ _ _ _ c.loop-part.invariant.attempt.passed.fixed c.loop-part.invariant.scope (left.match_last (g.W.Env.fixed c.args.world.now).types c.args.scope.now (view c.args.wanted) u c.in-Some.part.now c.in-Some.others.now c.loop-part.rest.now c.in-Some.ensures.cases.0 (nil_from_length _ c.in_default-split_first.ensures.cases) (c.loop-part.invariant.fits u r)))

pub matches-returns-in_err-value-clause-attempt : goal.matches-returns-in_err-value-clause-attempt
matches-returns-in_err-value-clause-attempt g t c = attempt_next _ _ _ (AnyMayWrite (all c.args.parts.now)) (MayWrite c.in-Some.part.now) (first_may c.loop-part.rest.now c.in-Some.part.now c.in-Some.others.now (AnyMayWrite (all c.args.parts.now)) c.in-Some.ensures.cases.0 c.loop-part.invariant.allowed) c.loop-part.invariant.attempt c.perform-in-Some.ensures.attempt

pub matches-perform-requires-in-Met : goal.matches-perform-requires-in-Met
matches-perform-requires-in-Met g t c κs within =
    let j = steps.first_is_smaller c.loop-part.rest.now c.in-Some.part.now c.in-Some.others.now (terms_size (all c.args.parts.now)) c.in-Some.ensures.cases.0 c.loop-part.invariant.small in
    let i = steps.first_is_smaller c.in-Some.others.now c.in-Some-split_first.branch.now c.in-Some-split_first.beyond.now (terms_size (all c.in-Some.others.now)) c.in-Some-split_first.ensures.cases.0 (refl_le (terms_size (all c.in-Some.others.now))) in (
      omega (arith, i, j),
      (within.0, (within.1, (c.requires.0, steps.moved (λ f h. IsActable f.types h c.in-Some-split_first.branch.now c.requires.0) _ _ _ _ (c.perform-in-Some.ensures.attempt.passed.fixed ∙ c.loop-part.invariant.attempt.passed.fixed) (c.perform-in-Some.ensures.scope ∙ c.loop-part.invariant.scope) (left.match_chosen (g.W.Env.fixed c.args.world.now).types c.args.scope.now (view c.args.wanted) c.requires.0 c.in-Some.part.now c.in-Some-split_first.branch.now c.in-Some.others.now c.in-Some-split_first.beyond.now c.loop-part.rest.now c.in-Some.ensures.cases.0 c.in-Some-split_first.ensures.cases.0 (c.loop-part.invariant.fits c.requires.0 c.requires.1))))),
    )

pub matches-returns-in-Met-clause-attempt : goal.matches-returns-in-Met-clause-attempt
matches-returns-in-Met-clause-attempt g t c = attempt_next _ _ _ (AnyMayWrite (all c.args.parts.now)) (MayWrite c.in-Some-split_first.branch.now) (first_may c.in-Some.others.now c.in-Some-split_first.branch.now c.in-Some-split_first.beyond.now (AnyMayWrite (all c.args.parts.now)) c.in-Some-split_first.ensures.cases.0 (others_may c.loop-part.rest.now c.in-Some.part.now c.in-Some.others.now (AnyMayWrite (all c.args.parts.now)) c.in-Some.ensures.cases.0 c.loop-part.invariant.allowed)) (attempt_next _ _ _ (AnyMayWrite (all c.args.parts.now)) (MayWrite c.in-Some.part.now) (first_may c.loop-part.rest.now c.in-Some.part.now c.in-Some.others.now (AnyMayWrite (all c.args.parts.now)) c.in-Some.ensures.cases.0 c.loop-part.invariant.allowed) c.loop-part.invariant.attempt c.perform-in-Some.ensures.attempt) c.perform-in-Met.ensures.attempt

pub matches-returns-in-Met-clause-done : goal.matches-returns-in-Met-clause-done
matches-returns-in-Met-clause-done g t c =
    IfOk-weaker c.perform-in-Met.result _ _
    (λ v k. steps.branch_done g.W.World.gives _ _ _ _ _ _ _ _ _ _ (steps.branches_of (switch_decision (view c.args.wanted)) (ground g.W.World.gives (g.W.Env.fixed c.args.world.now)) c.args.scope.now c.args.parts.now) c.in-Some-split_first.branch.now (view v) (c.perform-in-Some.ensures.attempt.passed.fixed ∙ c.loop-part.invariant.attempt.passed.fixed) (c.perform-in-Some.ensures.scope ∙ c.loop-part.invariant.scope) (passed_on _ _ _ c.loop-part.invariant.attempt.passed c.perform-in-Some.ensures.attempt.passed).later c.perform-in-Met.ensures.attempt.passed.later
    (steps.branch_met g.W.World.gives _ _ _ _ _ _ _ _ _ _ (steps.branches_of (switch_decision (view c.args.wanted)) (ground g.W.World.gives (g.W.Env.fixed c.args.world.now)) c.args.scope.now c.args.parts.now) c.in-Some.part.now c.in-Some.others.now c.loop-part.rest.now (view c.in_ok-value.value) c.loop-part.invariant.attempt.passed.fixed c.loop-part.invariant.scope c.loop-part.invariant.attempt.passed.later c.perform-in-Some.ensures.attempt.passed.later c.in-Some.ensures.cases.0 (switch_decision (view c.args.wanted)) c.in-Some-split_first.branch.now c.in-Some-split_first.beyond.now c.in-Some-split_first.ensures.cases.0 (sym (ap (λ w. switch_decision (view w) (view c.in_ok-value.value)) c.loop-part.invariant.wanted) ∙ sym c.decide_match.ensures ∙ c.in-Met.is) c.loop-part.invariant.done c.in_ok-value.ensures.done) k)
    c.perform-in-Met.ensures.done

pub matches-returns-in-Met-clause-fits : goal.matches-returns-in-Met-clause-fits
matches-returns-in-Met-clause-fits g t c =
    λ u r. c.perform-in-Met.ensures.fits u (steps.moved (λ f h. IsActable f.types h c.in-Some-split_first.branch.now u) _ _ _ _ (c.perform-in-Some.ensures.attempt.passed.fixed ∙ c.loop-part.invariant.attempt.passed.fixed) (c.perform-in-Some.ensures.scope ∙ c.loop-part.invariant.scope) (left.match_chosen (g.W.Env.fixed c.args.world.now).types c.args.scope.now (view c.args.wanted) u c.in-Some.part.now c.in-Some-split_first.branch.now c.in-Some.others.now c.in-Some-split_first.beyond.now c.loop-part.rest.now c.in-Some.ensures.cases.0 c.in-Some-split_first.ensures.cases.0 (c.loop-part.invariant.fits u r)))

pub matches-loop-part-preserved : goal.matches-loop-part-preserved
matches-loop-part-preserved g t c =
    record {
      attempt = attempt_next _ _ _ (AnyMayWrite (all c.args.parts.now)) (MayWrite c.in-Some.part.now) (first_may c.loop-part.rest.now c.in-Some.part.now c.in-Some.others.now (AnyMayWrite (all c.args.parts.now)) c.in-Some.ensures.cases.0 c.loop-part.invariant.allowed) c.loop-part.invariant.attempt c.perform-in-Some.ensures.attempt;
      allowed = others_may c.in-Some.others.now c.in-Some-split_first.branch.now c.in-Some-split_first.beyond.now (AnyMayWrite (all c.args.parts.now)) c.in-Some-split_first.ensures.cases.0 (others_may c.loop-part.rest.now c.in-Some.part.now c.in-Some.others.now (AnyMayWrite (all c.args.parts.now)) c.in-Some.ensures.cases.0 c.loop-part.invariant.allowed);
      scope = c.perform-in-Some.ensures.scope ∙ c.loop-part.invariant.scope;
      wanted = c.loop-part.invariant.wanted;
      fits = λ u r. left.match_beyond (g.W.Env.fixed c.args.world.now).types c.args.scope.now (view c.args.wanted) u c.in-Some.part.now c.in-Some-split_first.branch.now c.in-Some.others.now c.in-Some-split_first.beyond.now c.loop-part.rest.now c.in-Some.ensures.cases.0 c.in-Some-split_first.ensures.cases.0 (c.loop-part.invariant.fits u r);
      done = steps.branch_unmet g.W.World.gives _ _ _ _ _ _ _ _ _ _ (steps.branches_of (switch_decision (view c.args.wanted)) (ground g.W.World.gives (g.W.Env.fixed c.args.world.now)) c.args.scope.now c.args.parts.now) c.in-Some.part.now c.in-Some.others.now c.loop-part.rest.now (view c.in_ok-value.value) c.loop-part.invariant.attempt.passed.fixed c.loop-part.invariant.scope c.loop-part.invariant.attempt.passed.later c.perform-in-Some.ensures.attempt.passed.later c.in-Some.ensures.cases.0 (switch_decision (view c.args.wanted)) c.in-Some-split_first.branch.now c.in-Some-split_first.beyond.now c.in-Some-split_first.ensures.cases.0 (sym (ap (λ w. switch_decision (view w) (view c.in_ok-value.value)) c.loop-part.invariant.wanted) ∙ sym c.decide_match.ensures ∙ c.in-Unmet.is) c.loop-part.invariant.done c.in_ok-value.ensures.done;
      small = let j = steps.first_is_smaller c.loop-part.rest.now c.in-Some.part.now c.in-Some.others.now (terms_size (all c.args.parts.now)) c.in-Some.ensures.cases.0 c.loop-part.invariant.small in
          let i = steps.first_is_smaller c.in-Some.others.now c.in-Some-split_first.branch.now c.in-Some-split_first.beyond.now (terms_size (all c.in-Some.others.now)) c.in-Some-split_first.ensures.cases.0 (refl_le (terms_size (all c.in-Some.others.now))) in
          omega (arith, i, j);
      cut = cutting.branch_unmet g.W.World.gives _ _ _ _ _ _ _ _ _ _ (cutting.branches_left (switch_decision (view c.args.wanted)) (ground g.W.World.gives (g.W.Env.fixed c.args.world.now)) c.args.scope.now c.args.parts.now) c.in-Some.part.now c.in-Some.others.now c.loop-part.rest.now c.loop-part.invariant.attempt.passed.fixed c.loop-part.invariant.scope c.loop-part.invariant.attempt.passed.later c.perform-in-Some.ensures.attempt.passed.later c.in-Some.ensures.cases.0 (view c.in_ok-value.value) (switch_decision (view c.args.wanted)) c.in-Some-split_first.branch.now c.in-Some-split_first.beyond.now c.in-Some-split_first.ensures.cases.0 (sym (ap (λ w. switch_decision (view w) (view c.in_ok-value.value)) c.loop-part.invariant.wanted) ∙ sym c.decide_match.ensures ∙ c.in-Unmet.is) c.loop-part.invariant.cut c.in_ok-value.ensures.done;
    }

pub matches-returns-in-Error-clause-attempt : goal.matches-returns-in-Error-clause-attempt
matches-returns-in-Error-clause-attempt g t c = attempt_next _ _ _ (AnyMayWrite (all c.args.parts.now)) (MayWrite c.in-Some.part.now) (first_may c.loop-part.rest.now c.in-Some.part.now c.in-Some.others.now (AnyMayWrite (all c.args.parts.now)) c.in-Some.ensures.cases.0 c.loop-part.invariant.allowed) c.loop-part.invariant.attempt c.perform-in-Some.ensures.attempt

pub matches-returns-in-Error-clause-done : goal.matches-returns-in-Error-clause-done
matches-returns-in-Error-clause-done g t c =
    steps.branch_fails g.W.World.gives _ _ _ _ _ _ _ _ _ _ (steps.branches_of (switch_decision (view c.args.wanted)) (ground g.W.World.gives (g.W.Env.fixed c.args.world.now)) c.args.scope.now c.args.parts.now) c.in-Some.part.now c.in-Some.others.now c.loop-part.rest.now (view c.in_ok-value.value) c.loop-part.invariant.attempt.passed.fixed c.loop-part.invariant.scope c.loop-part.invariant.attempt.passed.later c.perform-in-Some.ensures.attempt.passed.later c.in-Some.ensures.cases.0 (switch_decision (view c.args.wanted)) c.in-Some-split_first.branch.now c.in-Some-split_first.beyond.now c.in-Some-split_first.ensures.cases.0 c.in-Error.fault (sym (ap (λ w. switch_decision (view w) (view c.in_ok-value.value)) c.loop-part.invariant.wanted) ∙ sym c.decide_match.ensures ∙ c.in-Error.is) c.loop-part.invariant.done c.in_ok-value.ensures.done

pub matches-returns-clause-done : goal.matches-returns-clause-done
matches-returns-clause-done g t c =
    steps.branch_none (switch_decision (view c.args.wanted)) (ground g.W.World.gives (g.W.Env.fixed c.args.world.now)) c.args.scope.now (SilenceCause (g.W.Env.marks c.args.world.now) (g.W.Env.marks c.loop-part.world)) (g.W.World.state c.args.world.now) (g.W.World.state c.loop-part.world) (steps.branches_of (switch_decision (view c.args.wanted)) (ground g.W.World.gives (g.W.Env.fixed c.args.world.now)) c.args.scope.now c.args.parts.now) c.loop-part.rest.now (nil_from_length _ c.in_default.ensures.cases) c.loop-part.invariant.done

pub matches-decide_match-requires : goal.matches-decide_match-requires
matches-decide_match-requires g t c =
    subst (λ w. CanMatch (view w) (view c.in_ok-value.value)) (sym c.loop-part.invariant.wanted)
    (left.match_can (g.W.Env.fixed c.args.world.now).types c.args.scope.now (view c.args.wanted) (view c.in_ok-value.value) c.requires.0 c.in-Some.part.now c.in-Some-split_first.branch.now c.in-Some.others.now c.in-Some-split_first.beyond.now c.loop-part.rest.now c.in-Some.ensures.cases.0 c.in-Some-split_first.ensures.cases.0 (c.loop-part.invariant.fits c.requires.0 c.requires.1)
    (λ q r. c.in_ok-value.ensures.fits q (steps.moved (λ f h. IsActable f.types h c.in-Some.part.now q) _ _ _ _ c.loop-part.invariant.attempt.passed.fixed c.loop-part.invariant.scope (r))))

pub recover-perform-requires : goal.recover-perform-requires
recover-perform-requires g t c κs within =
    let j = steps.first_is_smaller c.loop-part.rest.now c.in-Some.part.now c.in-Some.others.now (terms_size (all c.args.parts.now)) c.in-Some.ensures.cases.0 c.loop-part.invariant.small in (
      omega (arith, j),
      (within.0, (within.1, (c.requires.0, steps.moved (λ f h. IsActable f.types h c.in-Some.part.now c.requires.0) _ _ _ _ c.loop-part.invariant.attempt.passed.fixed c.loop-part.invariant.scope (left.recovery_first (g.W.Env.fixed c.args.world.now).types c.args.scope.now c.requires.0 c.in-Some.part.now c.in-Some.others.now c.loop-part.rest.now c.in-Some.ensures.cases.0 (c.loop-part.invariant.fits c.requires.0 c.requires.1).0)))),
    )

pub recover-perform-requires-in-Some : goal.recover-perform-requires-in-Some
recover-perform-requires-in-Some g t c κs within =
    let j = steps.first_is_smaller c.loop-part.rest.now c.in-Some.part.now c.in-Some.others.now (terms_size (all c.args.parts.now)) c.in-Some.ensures.cases.0 c.loop-part.invariant.small in (
      omega (arith, j),
      (within.0, (within.1, (c.requires.0, steps.moved (λ f h. IsActable f.types h c.in-Some.part.now c.requires.0) _ _ _ _ c.loop-part.invariant.attempt.passed.fixed c.loop-part.invariant.scope (left.recovery_first (g.W.Env.fixed c.args.world.now).types c.args.scope.now c.requires.0 c.in-Some.part.now c.in-Some.others.now c.loop-part.rest.now c.in-Some.ensures.cases.0 (c.loop-part.invariant.fits c.requires.0 c.requires.1).0)))),
    )

pub recover-returns-in_default-split_first-clause-attempt : goal.recover-returns-in_default-split_first-clause-attempt
recover-returns-in_default-split_first-clause-attempt g t c = attempt_next _ _ _ (AnyMayWrite (all c.args.parts.now)) (MayWrite c.in-Some.part.now) (first_may c.loop-part.rest.now c.in-Some.part.now c.in-Some.others.now (AnyMayWrite (all c.args.parts.now)) c.in-Some.ensures.cases.0 c.loop-part.invariant.allowed) c.loop-part.invariant.attempt c.perform.ensures.attempt

pub recover-returns-in_default-split_first-clause-done : goal.recover-returns-in_default-split_first-clause-done
recover-returns-in_default-split_first-clause-done g t c =
    IfOk-weaker c.perform.result _ _
    (λ v k. steps.recovery_ends g.W.World.gives _ _ _ _ _ _ _ _ _ _ (steps.recovery_of (ground g.W.World.gives (g.W.Env.fixed c.args.world.now)) c.args.scope.now (none_left_of form.IfError) c.args.parts.now) c.in-Some.part.now c.in-Some.others.now c.loop-part.rest.now (view v) c.loop-part.invariant.attempt.passed.fixed c.loop-part.invariant.scope c.loop-part.invariant.attempt.passed.later c.perform.ensures.attempt.passed.later c.in-Some.ensures.cases.0 (view c.loop-part.last) (nil_from_length _ c.in_default-split_first.ensures.cases) c.loop-part.invariant.done k)
    c.perform.ensures.done

pub recover-returns-in_default-split_first-clause-fits : goal.recover-returns-in_default-split_first-clause-fits
recover-returns-in_default-split_first-clause-fits g t c =
    λ u r. c.perform.ensures.fits u (steps.moved (λ f h. IsActable f.types h c.in-Some.part.now u) _ _ _ _ c.loop-part.invariant.attempt.passed.fixed c.loop-part.invariant.scope (left.recovery_first (g.W.Env.fixed c.args.world.now).types c.args.scope.now u c.in-Some.part.now c.in-Some.others.now c.loop-part.rest.now c.in-Some.ensures.cases.0 (c.loop-part.invariant.fits u r).0))

pub recover-returns-in_err-value-clause-attempt : goal.recover-returns-in_err-value-clause-attempt
recover-returns-in_err-value-clause-attempt g t c = attempt_next _ _ _ (AnyMayWrite (all c.args.parts.now)) (MayWrite c.in-Some.part.now) (first_may c.loop-part.rest.now c.in-Some.part.now c.in-Some.others.now (AnyMayWrite (all c.args.parts.now)) c.in-Some.ensures.cases.0 c.loop-part.invariant.allowed) c.loop-part.invariant.attempt c.perform-in-Some.ensures.attempt

pub recover-catch_error-requires : goal.recover-catch_error-requires
recover-catch_error-requires g t c κs within =
    let j = steps.first_is_smaller c.loop-part.rest.now c.in-Some.part.now c.in-Some.others.now (terms_size (all c.args.parts.now)) c.in-Some.ensures.cases.0 c.loop-part.invariant.small in
    let i = steps.first_is_smaller c.in-Some.others.now c.in-Some-split_first.fallback.now c.in-Some-split_first.beyond.now (terms_size (all c.in-Some.others.now)) c.in-Some-split_first.ensures.cases.0 (refl_le (terms_size (all c.in-Some.others.now))) in (
      omega (arith, i, j),
      (within.0, (within.1, (c.requires.0, steps.moved (λ f h. IsActable f.types (caught_in h c.in-Err.fault.kind c.in-Err.fault.message) c.in-Some-split_first.fallback.now c.requires.0) _ _ _ _ (c.perform-in-Some.ensures.attempt.passed.fixed ∙ c.loop-part.invariant.attempt.passed.fixed) (c.perform-in-Some.ensures.scope ∙ c.loop-part.invariant.scope) (left.recovery_caught (g.W.Env.fixed c.args.world.now).types c.args.scope.now c.requires.0 c.in-Some.part.now c.in-Some-split_first.fallback.now c.in-Some.others.now c.in-Some-split_first.beyond.now c.loop-part.rest.now c.in-Some.ensures.cases.0 c.in-Some-split_first.ensures.cases.0 (c.loop-part.invariant.fits c.requires.0 c.requires.1).0 c.in-Err.fault.kind c.in-Err.fault.message)))),
    )

pub recover-returns-in-Err-clause-attempt : goal.recover-returns-in-Err-clause-attempt
recover-returns-in-Err-clause-attempt g t c = attempt_next _ _ _ (AnyMayWrite (all c.args.parts.now)) (MayWrite c.in-Some-split_first.fallback.now) (first_may c.in-Some.others.now c.in-Some-split_first.fallback.now c.in-Some-split_first.beyond.now (AnyMayWrite (all c.args.parts.now)) c.in-Some-split_first.ensures.cases.0 (others_may c.loop-part.rest.now c.in-Some.part.now c.in-Some.others.now (AnyMayWrite (all c.args.parts.now)) c.in-Some.ensures.cases.0 c.loop-part.invariant.allowed)) (attempt_next _ _ _ (AnyMayWrite (all c.args.parts.now)) (MayWrite c.in-Some.part.now) (first_may c.loop-part.rest.now c.in-Some.part.now c.in-Some.others.now (AnyMayWrite (all c.args.parts.now)) c.in-Some.ensures.cases.0 c.loop-part.invariant.allowed) c.loop-part.invariant.attempt c.perform-in-Some.ensures.attempt) c.catch_error.ensures.attempt

pub recover-returns-in-Err-clause-done : goal.recover-returns-in-Err-clause-done
recover-returns-in-Err-clause-done g t c =
    IfOk-weaker c.catch_error.result _ _
    (λ v k. steps.branch_done g.W.World.gives _ _ _ _ _ _ _ _ _ _ (steps.recovery_of (ground g.W.World.gives (g.W.Env.fixed c.args.world.now)) c.args.scope.now (none_left_of form.IfError) c.args.parts.now) c.in-Some-split_first.fallback.now (view v) (c.perform-in-Some.ensures.attempt.passed.fixed ∙ c.loop-part.invariant.attempt.passed.fixed) (ap (λ h. caught_in h c.in-Err.fault.kind c.in-Err.fault.message) (c.perform-in-Some.ensures.scope ∙ c.loop-part.invariant.scope)) (passed_on _ _ _ c.loop-part.invariant.attempt.passed c.perform-in-Some.ensures.attempt.passed).later c.catch_error.ensures.attempt.passed.later
    (steps.recovery_falls g.W.World.gives _ _ _ _ _ _ _ _ _ _ (steps.recovery_of (ground g.W.World.gives (g.W.Env.fixed c.args.world.now)) c.args.scope.now (none_left_of form.IfError) c.args.parts.now) c.in-Some.part.now c.in-Some.others.now c.loop-part.rest.now (view c.in_ok-value.value) c.loop-part.invariant.attempt.passed.fixed c.loop-part.invariant.scope c.loop-part.invariant.attempt.passed.later c.perform-in-Some.ensures.attempt.passed.later c.in-Some.ensures.cases.0 (view c.loop-part.last) c.in-Some-split_first.fallback.now c.in-Some-split_first.beyond.now c.in-Some-split_first.ensures.cases.0 c.in-Err.fault.kind c.in-Err.fault.message c.in-Err.ensures c.loop-part.invariant.done c.in_ok-value.ensures.done) k)
    c.catch_error.ensures.done

pub recover-returns-in-Err-clause-fits : goal.recover-returns-in-Err-clause-fits
recover-returns-in-Err-clause-fits g t c =
    λ u r. c.catch_error.ensures.fits u (steps.moved (λ f h. IsActable f.types (caught_in h c.in-Err.fault.kind c.in-Err.fault.message) c.in-Some-split_first.fallback.now u) _ _ _ _ (c.perform-in-Some.ensures.attempt.passed.fixed ∙ c.loop-part.invariant.attempt.passed.fixed) (c.perform-in-Some.ensures.scope ∙ c.loop-part.invariant.scope) (left.recovery_caught (g.W.Env.fixed c.args.world.now).types c.args.scope.now u c.in-Some.part.now c.in-Some-split_first.fallback.now c.in-Some.others.now c.in-Some-split_first.beyond.now c.loop-part.rest.now c.in-Some.ensures.cases.0 c.in-Some-split_first.ensures.cases.0 (c.loop-part.invariant.fits u r).0 c.in-Err.fault.kind c.in-Err.fault.message))

pub recover-loop-part-preserved : goal.recover-loop-part-preserved
recover-loop-part-preserved g t c =
    record {
      attempt = attempt_next _ _ _ (AnyMayWrite (all c.args.parts.now)) (MayWrite c.in-Some.part.now) (first_may c.loop-part.rest.now c.in-Some.part.now c.in-Some.others.now (AnyMayWrite (all c.args.parts.now)) c.in-Some.ensures.cases.0 c.loop-part.invariant.allowed) c.loop-part.invariant.attempt c.perform-in-Some.ensures.attempt;
      allowed = others_may c.in-Some.others.now c.in-Some-split_first.fallback.now c.in-Some-split_first.beyond.now (AnyMayWrite (all c.args.parts.now)) c.in-Some-split_first.ensures.cases.0 (others_may c.loop-part.rest.now c.in-Some.part.now c.in-Some.others.now (AnyMayWrite (all c.args.parts.now)) c.in-Some.ensures.cases.0 c.loop-part.invariant.allowed);
      scope = c.perform-in-Some.ensures.scope ∙ c.loop-part.invariant.scope;
      fits = λ u r. (left.recovery_beyond (g.W.Env.fixed c.args.world.now).types c.args.scope.now u c.in-Some.part.now c.in-Some-split_first.fallback.now c.in-Some.others.now c.in-Some-split_first.beyond.now c.loop-part.rest.now c.in-Some.ensures.cases.0 c.in-Some-split_first.ensures.cases.0 (c.loop-part.invariant.fits u r).0, subst (λ z. fits_in z u ≡ true) (sym (ap view c.keep.ensures ∙ c.in-Ok.ensures.0)) (c.in_ok-value.ensures.fits u (steps.moved (λ f h. IsActable f.types h c.in-Some.part.now u) _ _ _ _ c.loop-part.invariant.attempt.passed.fixed c.loop-part.invariant.scope (left.recovery_first (g.W.Env.fixed c.args.world.now).types c.args.scope.now u c.in-Some.part.now c.in-Some.others.now c.loop-part.rest.now c.in-Some.ensures.cases.0 (c.loop-part.invariant.fits u r).0))));
      done = subst (λ z. MayFallSilent (SilenceCause (g.W.Env.marks c.args.world.now) (g.W.Env.marks c.perform-in-Some.new.world)) (RestDecides (steps.recovery_of (ground g.W.World.gives (g.W.Env.fixed c.args.world.now)) c.args.scope.now z c.in-Some-split_first.beyond.now) (steps.recovery_of (ground g.W.World.gives (g.W.Env.fixed c.args.world.now)) c.args.scope.now (none_left_of form.IfError) c.args.parts.now)) (g.W.World.state c.args.world.now) (g.W.World.state c.perform-in-Some.new.world)) (sym (ap view c.keep.ensures ∙ c.in-Ok.ensures.0))
          (steps.recovery_goes g.W.World.gives _ _ _ _ _ _ _ _ _ _ (steps.recovery_of (ground g.W.World.gives (g.W.Env.fixed c.args.world.now)) c.args.scope.now (none_left_of form.IfError) c.args.parts.now) c.in-Some.part.now c.in-Some.others.now c.loop-part.rest.now (view c.in_ok-value.value) c.loop-part.invariant.attempt.passed.fixed c.loop-part.invariant.scope c.loop-part.invariant.attempt.passed.later c.perform-in-Some.ensures.attempt.passed.later c.in-Some.ensures.cases.0 (view c.loop-part.last) c.in-Some-split_first.fallback.now c.in-Some-split_first.beyond.now c.in-Some-split_first.ensures.cases.0 c.in-Ok.ensures.1 c.loop-part.invariant.done c.in_ok-value.ensures.done);
      small = let j = steps.first_is_smaller c.loop-part.rest.now c.in-Some.part.now c.in-Some.others.now (terms_size (all c.args.parts.now)) c.in-Some.ensures.cases.0 c.loop-part.invariant.small in
          let i = steps.first_is_smaller c.in-Some.others.now c.in-Some-split_first.fallback.now c.in-Some-split_first.beyond.now (terms_size (all c.in-Some.others.now)) c.in-Some-split_first.ensures.cases.0 (refl_le (terms_size (all c.in-Some.others.now))) in
          omega (arith, i, j);
      cut = cutting.recovery_goes g.W.World.gives _ _ _ _ _ _ _ _ _ _ (cutting.recovery_left (ground g.W.World.gives (g.W.Env.fixed c.args.world.now)) c.args.scope.now c.args.parts.now) c.in-Some.part.now c.in-Some.others.now c.loop-part.rest.now c.loop-part.invariant.attempt.passed.fixed c.loop-part.invariant.scope c.loop-part.invariant.attempt.passed.later c.perform-in-Some.ensures.attempt.passed.later c.in-Some.ensures.cases.0 (view c.in_ok-value.value) c.in-Some-split_first.fallback.now c.in-Some-split_first.beyond.now c.in-Some-split_first.ensures.cases.0 c.in-Ok.ensures.1 c.loop-part.invariant.cut c.in_ok-value.ensures.done;
    }

pub recover-returns-clause-done : goal.recover-returns-clause-done
recover-returns-clause-done g t c =
    steps.recovery_none (view c.loop-part.last) (ground g.W.World.gives (g.W.Env.fixed c.args.world.now)) c.args.scope.now (SilenceCause (g.W.Env.marks c.args.world.now) (g.W.Env.marks c.loop-part.world)) (g.W.World.state c.args.world.now) (g.W.World.state c.loop-part.world) (steps.recovery_of (ground g.W.World.gives (g.W.Env.fixed c.args.world.now)) c.args.scope.now (none_left_of form.IfError) c.args.parts.now) c.loop-part.rest.now (nil_from_length _ c.in_default.ensures.cases) c.loop-part.invariant.done

pub each-in_scope-requires : goal.each-in_scope-requires
each-in_scope-requires g t c κs within = (
  omega arith,
  (within.0, (within.1, (c.requires.0, steps.moved (λ f h. IsActable f.types (inner h (record_of c.in_ok-copy.field-0)) c.args.formula.now c.requires.0) _ _ _ _ c.loop-row.invariant.attempt.passed.fixed c.loop-row.invariant.scope (subst (λ q. IsActable (g.W.Env.fixed c.args.world.now).types (inner c.args.scope.now (record_of q)) c.args.formula.now c.requires.0) (sym c.in_ok-copy.ensures) (left.inside_first (g.W.Env.fixed c.args.world.now).types c.args.scope.now c.requires.0 c.args.formula.now c.in-Some.row.now c.in-Some.others.now c.loop-row.rest.now c.in-Some.ensures.cases.0 (c.loop-row.invariant.fits c.requires.0 c.requires.1).0))))),
)

pub each-returns-in_err-value-clause-attempt : goal.each-returns-in_err-value-clause-attempt
each-returns-in_err-value-clause-attempt g t c = attempt_on _ _ _ _ c.loop-row.invariant.attempt c.in_scope.ensures.attempt

pub each-returns-in_err-push-clause-attempt : goal.each-returns-in_err-push-clause-attempt
each-returns-in_err-push-clause-attempt g t c = attempt_on _ _ _ _ c.loop-row.invariant.attempt c.in_scope.ensures.attempt

pub each-loop-row-preserved : goal.each-loop-row-preserved
each-loop-row-preserved g t c =
    record {
      attempt = attempt_on _ _ _ _ c.loop-row.invariant.attempt c.in_scope.ensures.attempt;
      scope = c.in_scope.ensures.scope ∙ c.loop-row.invariant.scope;
      fits = λ u r. (left.inside_rest (g.W.Env.fixed c.args.world.now).types c.args.scope.now u c.args.formula.now c.in-Some.row.now c.in-Some.others.now c.loop-row.rest.now c.in-Some.ensures.cases.0 (c.loop-row.invariant.fits u r).0, left.of_more u (map view c.loop-row.values.items) _ (view c.in_ok-value.value) (ap (map view) c.in_ok-push.ensures.items ∙ map-append _ _ _) (c.loop-row.invariant.fits u r).1 (c.in_ok-value.ensures.fits u (steps.moved (λ f h. IsActable f.types (inner h (record_of c.in_ok-copy.field-0)) c.args.formula.now u) _ _ _ _ c.loop-row.invariant.attempt.passed.fixed c.loop-row.invariant.scope (subst (λ q. IsActable (g.W.Env.fixed c.args.world.now).types (inner c.args.scope.now (record_of q)) c.args.formula.now u) (sym c.in_ok-copy.ensures) (left.inside_first (g.W.Env.fixed c.args.world.now).types c.args.scope.now u c.args.formula.now c.in-Some.row.now c.in-Some.others.now c.loop-row.rest.now c.in-Some.ensures.cases.0 (c.loop-row.invariant.fits u r).0)))));
      done = steps.each_goes g.W.World.gives _ _ _ _ _ _ _ _ _ _ (steps.each_of (ground g.W.World.gives (g.W.Env.fixed c.args.world.now)) c.args.scope.now c.args.formula.now c.args.rows.now) (map view c.loop-row.values.items) _ (view c.in_ok-value.value) c.loop-row.invariant.attempt.passed.fixed c.loop-row.invariant.scope c.loop-row.invariant.attempt.passed.later c.in_scope.ensures.attempt.passed.later (ap (map view) c.in_ok-push.ensures.items ∙ map-append _ _ _) c.args.formula.now c.in-Some.row.now (record_of c.in_ok-copy.field-0) c.in-Some.others.now c.loop-row.rest.now c.in-Some.ensures.cases.0 (ap record_of c.in_ok-copy.ensures) c.loop-row.invariant.done c.in_ok-value.ensures.done;
      cut = cutting.each_go g.W.World.gives _ _ _ _ _ _ _ _ _ _ (cutting.each_left (ground g.W.World.gives (g.W.Env.fixed c.args.world.now)) c.args.scope.now c.args.formula.now c.args.rows.now) c.args.formula.now c.in-Some.row.now (record_of c.in_ok-copy.field-0) c.in-Some.others.now c.loop-row.rest.now c.loop-row.invariant.attempt.passed.fixed c.loop-row.invariant.scope c.loop-row.invariant.attempt.passed.later c.in_scope.ensures.attempt.passed.later c.in-Some.ensures.cases.0 (ap record_of c.in_ok-copy.ensures) (view c.in_ok-value.value) c.loop-row.invariant.cut c.in_ok-value.ensures.done;
    }

pub each-returns-clause-done : goal.each-returns-clause-done
each-returns-clause-done g t c =
    steps.each_ends (SilenceCause (g.W.Env.marks c.args.world.now) (g.W.Env.marks c.loop-row.world)) (g.W.World.state c.args.world.now) (g.W.World.state c.loop-row.world) (ground g.W.World.gives (g.W.Env.fixed c.args.world.now)) c.args.scope.now c.args.formula.now (steps.each_of (ground g.W.World.gives (g.W.Env.fixed c.args.world.now)) c.args.scope.now c.args.formula.now c.args.rows.now) (map view c.loop-row.values.items) c.loop-row.rest.now (nil_from_length _ c.in_default.ensures.cases) c.loop-row.invariant.done

pub each-returns-clause-fits : goal.each-returns-clause-fits
each-returns-clause-fits g t c =
    λ u r. (c.loop-row.invariant.fits u r).1

pub part_values-perform-requires : goal.part_values-perform-requires
part_values-perform-requires g t c κs within =
    let j = steps.first_is_smaller c.loop-part.rest.now c.in-Some.part.now c.in-Some.others.now (terms_size (all c.args.parts.now)) c.in-Some.ensures.cases.0 c.loop-part.invariant.small in (
      omega (arith, j),
      (within.0, (within.1, steps.moved (λ f h. CanAct f.types h c.in-Some.part.now) _ _ _ _ c.loop-part.invariant.attempt.passed.fixed c.loop-part.invariant.scope (left.left_first (g.W.Env.fixed c.args.world.now).types c.args.scope.now c.requires.0 (map view c.loop-part.values.items) c.in-Some.part.now c.in-Some.others.now c.loop-part.rest.now c.in-Some.ensures.cases.0 (c.loop-part.invariant.fits c.requires.0 c.requires.1)))),
    )

pub part_values-returns-in_err-value-clause-attempt : goal.part_values-returns-in_err-value-clause-attempt
part_values-returns-in_err-value-clause-attempt g t c = attempt_next _ _ _ (AnyMayWrite (all c.args.parts.now)) (MayWrite c.in-Some.part.now) (first_may c.loop-part.rest.now c.in-Some.part.now c.in-Some.others.now (AnyMayWrite (all c.args.parts.now)) c.in-Some.ensures.cases.0 c.loop-part.invariant.allowed) c.loop-part.invariant.attempt c.perform.ensures.attempt

pub part_values-returns-in_err-push-clause-attempt : goal.part_values-returns-in_err-push-clause-attempt
part_values-returns-in_err-push-clause-attempt g t c = attempt_next _ _ _ (AnyMayWrite (all c.args.parts.now)) (MayWrite c.in-Some.part.now) (first_may c.loop-part.rest.now c.in-Some.part.now c.in-Some.others.now (AnyMayWrite (all c.args.parts.now)) c.in-Some.ensures.cases.0 c.loop-part.invariant.allowed) c.loop-part.invariant.attempt c.perform.ensures.attempt

pub part_values-loop-part-preserved : goal.part_values-loop-part-preserved
part_values-loop-part-preserved g t c =
    record {
      attempt = attempt_next _ _ _ (AnyMayWrite (all c.args.parts.now)) (MayWrite c.in-Some.part.now) (first_may c.loop-part.rest.now c.in-Some.part.now c.in-Some.others.now (AnyMayWrite (all c.args.parts.now)) c.in-Some.ensures.cases.0 c.loop-part.invariant.allowed) c.loop-part.invariant.attempt c.perform.ensures.attempt;
      allowed = others_may c.loop-part.rest.now c.in-Some.part.now c.in-Some.others.now (AnyMayWrite (all c.args.parts.now)) c.in-Some.ensures.cases.0 c.loop-part.invariant.allowed;
      scope = c.perform.ensures.scope ∙ c.loop-part.invariant.scope;
      fits = λ us r. left.left_rest (g.W.Env.fixed c.args.world.now).types c.args.scope.now us (map view c.loop-part.values.items) _ c.in-Some.part.now c.in-Some.others.now c.loop-part.rest.now (view c.in_ok-value.value) c.in-Some.ensures.cases.0 (ap (map view) c.in_ok-push.ensures.items ∙ map-append _ _ _) (λ q i. c.in_ok-value.ensures.fits q (steps.moved (λ f h. IsActable f.types h c.in-Some.part.now q) _ _ _ _ c.loop-part.invariant.attempt.passed.fixed c.loop-part.invariant.scope (i))) (c.loop-part.invariant.fits us r);
      done = steps.performed_goes g.W.World.gives _ _ _ _ _ _ _ _ _ _ (steps.parts_of (ground g.W.World.gives (g.W.Env.fixed c.args.world.now)) c.args.scope.now c.args.parts.now) (map view c.loop-part.values.items) _ (view c.in_ok-value.value) c.loop-part.invariant.attempt.passed.fixed c.loop-part.invariant.scope c.loop-part.invariant.attempt.passed.later c.perform.ensures.attempt.passed.later (ap (map view) c.in_ok-push.ensures.items ∙ map-append _ _ _) c.in-Some.part.now c.in-Some.others.now c.loop-part.rest.now c.in-Some.ensures.cases.0 c.loop-part.invariant.done c.in_ok-value.ensures.done;
      small = let j = steps.first_is_smaller c.loop-part.rest.now c.in-Some.part.now c.in-Some.others.now (terms_size (all c.args.parts.now)) c.in-Some.ensures.cases.0 c.loop-part.invariant.small in omega (arith, j);
      cut = cutting.parts_go g.W.World.gives _ _ _ _ _ _ _ _ _ _ (cutting.parts_left (ground g.W.World.gives (g.W.Env.fixed c.args.world.now)) c.args.scope.now c.args.parts.now) c.in-Some.part.now c.in-Some.others.now c.loop-part.rest.now c.loop-part.invariant.attempt.passed.fixed c.loop-part.invariant.scope c.loop-part.invariant.attempt.passed.later c.perform.ensures.attempt.passed.later c.in-Some.ensures.cases.0 (view c.in_ok-value.value) c.loop-part.invariant.cut c.in_ok-value.ensures.done;
    }

pub part_values-returns-clause-done : goal.part_values-returns-clause-done
part_values-returns-clause-done g t c =
    steps.performed_ends (SilenceCause (g.W.Env.marks c.args.world.now) (g.W.Env.marks c.loop-part.world)) (g.W.World.state c.args.world.now) (g.W.World.state c.loop-part.world) (ground g.W.World.gives (g.W.Env.fixed c.args.world.now)) c.args.scope.now (steps.parts_of (ground g.W.World.gives (g.W.Env.fixed c.args.world.now)) c.args.scope.now c.args.parts.now) (map view c.loop-part.values.items) c.loop-part.rest.now (nil_from_length _ c.in_default.ensures.cases) c.loop-part.invariant.done

pub part_values-returns-clause-fits : goal.part_values-returns-clause-fits
part_values-returns-clause-fits g t c =
    λ us r. left.left_ends (g.W.Env.fixed c.args.world.now).types c.args.scope.now us (map view c.loop-part.values.items) c.loop-part.rest.now (nil_from_length _ c.in_default.ensures.cases) (c.loop-part.invariant.fits us r)

pub part_values-loop-part-init : goal.part_values-loop-part-init
part_values-loop-part-init g t c =
    record {
      attempt = attempt_none _ _;
      allowed = λ x m. m;
      scope = refl;
      fits = λ us r. ([], us, refl, subst (λ z. AreFit (map view z) []) (sym c.new-values.ensures.items) tt, r);
      done = steps.performed_begins _ _ (ground g.W.World.gives (g.W.Env.fixed c.args.world.now)) c.args.scope.now c.args.parts.now _ (ap (map view) c.new-values.ensures.items);
      small = refl_le (terms_size (all c.args.parts.now));
      cut = cutting.cut_begins _ _ (cutting.parts_left (ground g.W.World.gives (g.W.Env.fixed c.args.world.now)) c.args.scope.now c.args.parts.now);
    }

pub for_all-returns-in_ok-for_all-in-Ok-clause-done : goal.for_all-returns-in_ok-for_all-in-Ok-clause-done
for_all-returns-in_ok-for_all-in-Ok-clause-done g t c =
    subst (λ (ts : List Term). MayFallSilent (SilenceCause (g.W.Env.marks c.args.world.now) (g.W.Env.marks c.each.new.world)) (λ s u. IsForAll (performing (ground g.W.World.gives (g.W.Env.fixed c.args.world.now)) c.args.table.now ∷ performings (ground g.W.World.gives (g.W.Env.fixed c.args.world.now)) (all ts)) c.args.scope.now s (view c.in_ok-for_all-in-Ok.field-0) u) (g.W.World.state c.args.world.now) (g.W.World.state c.each.new.world)) (sym (formula_is (g.W.Env.fixed c.args.world.now).types c.args.scope.now c.args.table.now c.args.parts.now c.requires.0 c.requires.1 c.in-Some.formula.now _ c.in-Some.ensures.cases.0))
    (steps.for_all_goes (ground g.W.World.gives (g.W.Env.fixed c.args.world.now)) c.args.scope.now _ _ _ _ _ _ c.args.table.now (view c.in_ok-value.value) c.perform.ensures.attempt.passed.later c.each.ensures.attempt.passed.later (is_no_error _ c.in-Ok.ensures.1) c.in-Some.formula.now c.in-Ok.rows c.as_slice.result.now (map view c.in_ok-values-in-Ok.values.items) (view c.in_ok-for_all-in-Ok.field-0) c.in-Ok.ensures.0 c.as_slice.ensures c.in_ok-for_all-in-Ok.ensures.value c.in_ok-value.ensures.done
    (steps.back (λ f h. MayFallSilent (SilenceCause (g.W.Env.marks c.perform.new.world) (g.W.Env.marks c.each.new.world)) (λ s u. PerformsEach (performing (ground g.W.World.gives f) c.in-Some.formula.now) h c.as_slice.result.now s (map view c.in_ok-values-in-Ok.values.items) u) (g.W.World.state c.perform.new.world) (g.W.World.state c.each.new.world)) _ _ _ _ c.perform.ensures.attempt.passed.fixed c.perform.ensures.scope c.in_ok-values-in-Ok.ensures.done))

pub for_all-returns-in_ok-for_all-in-Ok-clause-fits : goal.for_all-returns-in_ok-for_all-in-Ok-clause-fits
for_all-returns-in_ok-for_all-in-Ok-clause-fits g t c =
    λ u r.
    let k = gone (g.W.Env.fixed c.args.world.now).types c.args.scope.now c.args.table.now c.args.parts.now u r c.in-Some.formula.now _ c.in-Some.ensures.cases.0 (view c.in_ok-value.value) c.in_ok-value.ensures.fits c.in-Ok.rows c.as_slice.result.now c.in-Ok.ensures.0 c.as_slice.ensures in
    k.fits (map view c.in_ok-values-in-Ok.values.items) (view c.in_ok-for_all-in-Ok.field-0) (c.in_ok-values-in-Ok.ensures.fits k.type (steps.moved (λ f h. IsActableInside f.types h k.type c.in-Some.formula.now c.as_slice.result.now) _ _ _ _ c.perform.ensures.attempt.passed.fixed c.perform.ensures.scope k.inside)) c.in_ok-for_all-in-Ok.ensures.value

pub for_all-returns-in_ok-for_all-in-Ok-clause-attempt : goal.for_all-returns-in_ok-for_all-in-Ok-clause-attempt
for_all-returns-in_ok-for_all-in-Ok-clause-attempt g t c = attempt_over _ _ _ (MayWrite c.args.table.now) (MayWrite c.in-Some.formula.now) (AnyMayWrite (cons c.args.table.now (all c.args.parts.now))) (λ x m. inl m) (first_may c.args.parts.now c.in-Some.formula.now _ (AnyMayWrite (cons c.args.table.now (all c.args.parts.now))) c.in-Some.ensures.cases.0 (λ x m. inr m)) c.perform.ensures.attempt c.each.ensures.attempt

pub for_all-returns-in_err-for_all-in-Ok-clause-attempt : goal.for_all-returns-in_err-for_all-in-Ok-clause-attempt
for_all-returns-in_err-for_all-in-Ok-clause-attempt g t c = attempt_over _ _ _ (MayWrite c.args.table.now) (MayWrite c.in-Some.formula.now) (AnyMayWrite (cons c.args.table.now (all c.args.parts.now))) (λ x m. inl m) (first_may c.args.parts.now c.in-Some.formula.now _ (AnyMayWrite (cons c.args.table.now (all c.args.parts.now))) c.in-Some.ensures.cases.0 (λ x m. inr m)) c.perform.ensures.attempt c.each.ensures.attempt

pub update_if-each-requires : goal.update_if-each-requires
update_if-each-requires g t c κs within =
    let k = updated.changing (g.W.Env.fixed c.args.world.now).types c.args.scope.now c.args.target c.args.parts.now c.filter_and_change.result.0.now c.filter_and_change.result.1.now c.requires.0 c.filter_and_change.ensures c.requires.1 (view c.in_ok-value.value) c.in_ok-value.ensures.fits c.in-Ok.rows c.as_slice-kept.result.now c.in-Ok.ensures.0 c.as_slice-kept.ensures in
    let h = updated.two_sizes c.args.parts.now c.filter_and_change.result.0.now c.filter_and_change.result.1.now c.filter_and_change.ensures in (
      omega (arith, h),
      (within.0, (within.1, (k.type, steps.moved (λ f h. IsActableInside f.types h k.type c.filter_and_change.result.1.now c.as_slice-kept.result.now) _ _ _ _ c.perform.ensures.attempt.passed.fixed c.perform.ensures.scope k.inside))),
    )

pub update_if-update-requires : goal.update_if-update-requires
update_if-update-requires g t c =
    let k = updated.changing (g.W.Env.fixed c.args.world.now).types c.args.scope.now c.args.target c.args.parts.now c.filter_and_change.result.0.now c.filter_and_change.result.1.now c.requires.0 c.filter_and_change.ensures c.requires.1 (view c.in_ok-value.value) c.in_ok-value.ensures.fits c.in-Ok.rows c.as_slice-kept.result.now c.in-Ok.ensures.0 c.as_slice-kept.ensures in
    subst (λ (f : Fixed). CanUpdate f.types c.args.target c.as_slice-kept.result.now (map view c.as_slice.result.now)) (sym (c.each.ensures.attempt.passed.fixed ∙ c.perform.ensures.attempt.passed.fixed))
    (subst (λ vs. CanUpdate (g.W.Env.fixed c.args.world.now).types c.args.target c.as_slice-kept.result.now (map view vs)) (sym c.as_slice.ensures.value) (k.follows (map view c.in_ok-changes-in-Ok.changes.items) (c.in_ok-changes-in-Ok.ensures.fits k.type (steps.moved (λ f h. IsActableInside f.types h k.type c.filter_and_change.result.1.now c.as_slice-kept.result.now) _ _ _ _ c.perform.ensures.attempt.passed.fixed c.perform.ensures.scope k.inside))))

pub update_if-returns-in_ok-changes-in-Ok-clause-attempt : goal.update_if-returns-in_ok-changes-in-Ok-clause-attempt
update_if-returns-in_ok-changes-in-Ok-clause-attempt g t c = attempt_over _ _ _ (MayWrite (of (top.act (deed.UpdateIf c.args.target)) (all c.args.parts.now))) (DeedMayWrite (deed.UpdateIf c.args.target)) (MayWrite (of (top.act (deed.UpdateIf c.args.target)) (all c.args.parts.now))) (λ x m. m) (λ x m. inl m) (attempt_over _ _ _ (MayWrite c.filter_and_change.result.0.now) (MayWrite c.filter_and_change.result.1.now) (MayWrite (of (top.act (deed.UpdateIf c.args.target)) (all c.args.parts.now))) (first_may c.args.parts.now c.filter_and_change.result.0.now (c.filter_and_change.result.1.now ∷ []) (MayWrite (of (top.act (deed.UpdateIf c.args.target)) (all c.args.parts.now))) c.filter_and_change.ensures (λ x m. inr m)) (first_may (c.filter_and_change.result.1.now ∷ []) c.filter_and_change.result.1.now [] (MayWrite (of (top.act (deed.UpdateIf c.args.target)) (all c.args.parts.now))) refl (others_may c.args.parts.now c.filter_and_change.result.0.now (c.filter_and_change.result.1.now ∷ []) (MayWrite (of (top.act (deed.UpdateIf c.args.target)) (all c.args.parts.now))) c.filter_and_change.ensures (λ x m. inr m))) c.perform.ensures.attempt c.each.ensures.attempt) c.update.ensures.attempt

pub update_if-returns-in_ok-changes-in-Ok-clause-done : goal.update_if-returns-in_ok-changes-in-Ok-clause-done
update_if-returns-in_ok-changes-in-Ok-clause-done g t c =
    IfOk-weaker c.update.result _ _
    (λ v k. subst (λ (ts : List Term). MayFallSilent (SilenceCause (g.W.Env.marks c.args.world.now) (g.W.Env.marks c.update.new.world)) (λ s u. IsUpdateIf (ground g.W.World.gives (g.W.Env.fixed c.args.world.now)) c.args.target (performings (ground g.W.World.gives (g.W.Env.fixed c.args.world.now)) (all ts)) c.args.scope.now s (view v) u) (g.W.World.state c.args.world.now) (g.W.World.state c.update.new.world)) (sym c.filter_and_change.ensures)
    (acted.update_goes (ground g.W.World.gives (g.W.Env.fixed c.args.world.now)) c.args.scope.now _ _ _ _ _ _ _ _ c.args.target c.filter_and_change.result.0.now c.filter_and_change.result.1.now (view c.in_ok-value.value) c.in-Ok.rows c.as_slice-kept.result.now (map view c.in_ok-changes-in-Ok.changes.items) (view v) c.perform.ensures.attempt.passed.later c.each.ensures.attempt.passed.later c.update.ensures.attempt.passed.later
    (is_no_error _ c.in-Ok.ensures.1) c.in-Ok.ensures.0 c.as_slice-kept.ensures c.in_ok-value.ensures.done
    (steps.back (λ f h. MayFallSilent (SilenceCause (g.W.Env.marks c.perform.new.world) (g.W.Env.marks c.each.new.world)) (λ s u. PerformsEach (performing (ground g.W.World.gives f) c.filter_and_change.result.1.now) h c.as_slice-kept.result.now s (map view c.in_ok-changes-in-Ok.changes.items) u) (g.W.World.state c.perform.new.world) (g.W.World.state c.each.new.world)) _ _ _ _ c.perform.ensures.attempt.passed.fixed c.perform.ensures.scope c.in_ok-changes-in-Ok.ensures.done)
    (subst (λ (f : Fixed). MayFallSilent (SilenceCause (g.W.Env.marks c.each.new.world) (g.W.Env.marks c.update.new.world)) (λ s u. IsUpdate (eval_frame f) c.args.target c.as_slice-kept.result.now (map view c.in_ok-changes-in-Ok.changes.items) s (view v) u) (g.W.World.state c.each.new.world) (g.W.World.state c.update.new.world)) (c.each.ensures.attempt.passed.fixed ∙ c.perform.ensures.attempt.passed.fixed) (subst (λ vs. MayFallSilent (SilenceCause (g.W.Env.marks c.each.new.world) (g.W.Env.marks c.update.new.world)) (λ s u. IsUpdate (eval_frame (g.W.Env.fixed c.each.new.world)) c.args.target c.as_slice-kept.result.now (map view vs) s (view v) u) (g.W.World.state c.each.new.world) (g.W.World.state c.update.new.world)) c.as_slice.ensures.value k))))
    c.update.ensures.done

pub act_deed-returns-in_ok-values-in_default : goal.act_deed-returns-in_ok-values-in_default
act_deed-returns-in_ok-values-in_default g t c =
    record {
      attempt = attempt_over _ _ _ (AnyMayWrite (all c.args.parts.now)) (DeedMayWrite c.args.deed.now) (MayWrite (of (top.act c.args.deed.now) (all c.args.parts.now))) (λ x m. inr m) (λ x m. inl m) c.part_values.ensures.attempt c.do_deed.ensures.attempt;
      scope = c.part_values.ensures.scope;
      keeper = λ e. rose_before _ _ _ c.part_values.ensures.attempt.passed.later.faults (c.do_deed.ensures.keeper e);
      done = IfOk-weaker c.do_deed.result _ _
          (λ v k. acted.deed_goes (ground g.W.World.gives (g.W.Env.fixed c.args.world.now)) c.args.scope.now _ _ _ _ _ _ c.args.deed.now (acted.not_updating c.args.deed.now c.in_default.not-UpdateIf) c.args.parts.now (map view c.in_ok-values-in_default.values.items) (view v) c.part_values.ensures.attempt.passed.later c.do_deed.ensures.attempt.passed.later c.in_ok-values-in_default.ensures.done
          (subst (λ (f : Fixed). MayFallSilent (SilenceCause (g.W.Env.marks c.part_values.new.world) (g.W.Env.marks c.do_deed.new.world)) (λ s u. IsDeed (eval_frame f) c.args.deed.now (map view c.in_ok-values-in_default.values.items) s (view v) u) (g.W.World.state c.part_values.new.world) (g.W.World.state c.do_deed.new.world)) c.part_values.ensures.attempt.passed.fixed k))
          c.do_deed.ensures.done;
      fits = λ u r. c.do_deed.ensures.fits u (subst (λ (f : Fixed). AnswersAs f.types c.args.deed.now u) (sym c.part_values.ensures.attempt.passed.fixed) (acted.deed_answers (g.W.Env.fixed c.args.world.now).types c.args.scope.now c.args.deed.now c.args.parts.now u (acted.not_updating c.args.deed.now c.in_default.not-UpdateIf) r));
      cut = on_err_weaker c.do_deed.result
          (λ k. cutting.deed_then (ground g.W.World.gives (g.W.Env.fixed c.args.world.now)) c.args.scope.now _ _ _ _ _ _ c.args.deed.now (acted.not_updating c.args.deed.now c.in_default.not-UpdateIf) c.args.parts.now (map view c.in_ok-values-in_default.values.items) c.part_values.ensures.attempt.passed.later c.do_deed.ensures.attempt.passed.later c.in_ok-values-in_default.ensures.done
          (subst (λ (f : Fixed). MayFallSilent (SilenceCause (g.W.Env.marks c.part_values.new.world) (g.W.Env.marks c.do_deed.new.world)) (CutDeed (eval_frame f) c.args.deed.now (map view c.in_ok-values-in_default.values.items)) (g.W.World.state c.part_values.new.world) (g.W.World.state c.do_deed.new.world)) c.part_values.ensures.attempt.passed.fixed k))
          c.do_deed.ensures.cut;
    }

pub branches-loop-part-init : goal.branches-loop-part-init
branches-loop-part-init g t c =
    record {
      attempt = attempt_none _ _;
      allowed = λ x m. m;
      scope = refl;
      fits = λ u r. r;
      done = begins _ _ (steps.branches_of decision_of (ground g.W.World.gives (g.W.Env.fixed c.args.world.now)) c.args.scope.now c.args.parts.now);
      small = refl_le (terms_size (all c.args.parts.now));
      cut = cutting.cut_begins _ _ (cutting.branches_left decision_of (ground g.W.World.gives (g.W.Env.fixed c.args.world.now)) c.args.scope.now c.args.parts.now);
    }

pub matches-loop-part-init : goal.matches-loop-part-init
matches-loop-part-init g t c =
    record {
      attempt = attempt_none _ _;
      allowed = λ x m. m;
      scope = refl;
      wanted = refl;
      fits = λ u r. r;
      done = begins _ _ (steps.branches_of (switch_decision (view c.args.wanted)) (ground g.W.World.gives (g.W.Env.fixed c.args.world.now)) c.args.scope.now c.args.parts.now);
      small = refl_le (terms_size (all c.args.parts.now));
      cut = cutting.cut_begins _ _ (cutting.branches_left (switch_decision (view c.args.wanted)) (ground g.W.World.gives (g.W.Env.fixed c.args.world.now)) c.args.scope.now c.args.parts.now);
    }

pub recover-loop-part-init : goal.recover-loop-part-init
recover-loop-part-init g t c =
    record {
      attempt = attempt_none _ _;
      allowed = λ x m. m;
      scope = refl;
      fits = λ u r. (r, refl);
      done = begins _ _ (steps.recovery_of (ground g.W.World.gives (g.W.Env.fixed c.args.world.now)) c.args.scope.now (none_left_of form.IfError) c.args.parts.now);
      small = refl_le (terms_size (all c.args.parts.now));
      cut = cutting.cut_begins _ _ (cutting.recovery_left (ground g.W.World.gives (g.W.Env.fixed c.args.world.now)) c.args.scope.now c.args.parts.now);
    }

pub node-returns-in_err-value-in-Dot-clause-attempt : goal.node-returns-in_err-value-in-Dot-clause-attempt
node-returns-in_err-value-in-Dot-clause-attempt g t c = attempt_one _ _ _ _ c.deref-in-Dot.result.now c.args.core.now (sym (ap core_branch c.in-Dot.is) ∙ c.core.view_is) c.deref-in-Dot.ensures c.perform.ensures.attempt

pub node-returns-in_ok-field_of-in-Dot-clause-attempt : goal.node-returns-in_ok-field_of-in-Dot-clause-attempt
node-returns-in_ok-field_of-in-Dot-clause-attempt g t c = attempt_one _ _ _ _ c.deref-in-Dot.result.now c.args.core.now (sym (ap core_branch c.in-Dot.is) ∙ c.core.view_is) c.deref-in-Dot.ensures c.perform.ensures.attempt

pub node-returns-in_err-field_of-in-Dot-clause-attempt : goal.node-returns-in_err-field_of-in-Dot-clause-attempt
node-returns-in_err-field_of-in-Dot-clause-attempt g t c = attempt_one _ _ _ _ c.deref-in-Dot.result.now c.args.core.now (sym (ap core_branch c.in-Dot.is) ∙ c.core.view_is) c.deref-in-Dot.ensures c.perform.ensures.attempt

pub node-returns-in_err-value-in-Coerce-clause-attempt : goal.node-returns-in_err-value-in-Coerce-clause-attempt
node-returns-in_err-value-in-Coerce-clause-attempt g t c = attempt_one _ _ _ _ c.deref-in-Coerce.result.now c.args.core.now (sym (ap core_branch c.in-Coerce.is) ∙ c.core.view_is) c.deref-in-Coerce.ensures c.perform-in-Coerce.ensures.attempt

pub node-returns-in_ok-coerce-in-Coerce-clause-attempt : goal.node-returns-in_ok-coerce-in-Coerce-clause-attempt
node-returns-in_ok-coerce-in-Coerce-clause-attempt g t c = attempt_one _ _ _ _ c.deref-in-Coerce.result.now c.args.core.now (sym (ap core_branch c.in-Coerce.is) ∙ c.core.view_is) c.deref-in-Coerce.ensures c.perform-in-Coerce.ensures.attempt

pub node-returns-in_err-coerce-in-Coerce-clause-attempt : goal.node-returns-in_err-coerce-in-Coerce-clause-attempt
node-returns-in_err-coerce-in-Coerce-clause-attempt g t c = attempt_one _ _ _ _ c.deref-in-Coerce.result.now c.args.core.now (sym (ap core_branch c.in-Coerce.is) ∙ c.core.view_is) c.deref-in-Coerce.ensures c.perform-in-Coerce.ensures.attempt

pub node-returns-in_err-values-in-List-clause-attempt : goal.node-returns-in_err-values-in-List-clause-attempt
node-returns-in_err-values-in-List-clause-attempt g t c = attempt_parts _ _ _ (all c.as_slice-in-List.result.now) c.args.core.now (heads.parts_are _ _ c.as_slice-in-List.result.now c.args.core.now (sym (ap core_branch c.in-List.is) ∙ c.core.view_is) c.as_slice-in-List.ensures) c.part_values.ensures.attempt

pub node-returns-in_ok-list-in-List-clause-attempt : goal.node-returns-in_ok-list-in-List-clause-attempt
node-returns-in_ok-list-in-List-clause-attempt g t c = attempt_parts _ _ _ (all c.as_slice-in-List.result.now) c.args.core.now (heads.parts_are _ _ c.as_slice-in-List.result.now c.args.core.now (sym (ap core_branch c.in-List.is) ∙ c.core.view_is) c.as_slice-in-List.ensures) c.part_values.ensures.attempt

pub node-returns-in_err-list-in-List-clause-attempt : goal.node-returns-in_err-list-in-List-clause-attempt
node-returns-in_err-list-in-List-clause-attempt g t c = attempt_parts _ _ _ (all c.as_slice-in-List.result.now) c.args.core.now (heads.parts_are _ _ c.as_slice-in-List.result.now c.args.core.now (sym (ap core_branch c.in-List.is) ∙ c.core.view_is) c.as_slice-in-List.ensures) c.part_values.ensures.attempt

pub perform-returns-else-acts-clause-attempt : goal.perform-returns-else-acts-clause-attempt
perform-returns-else-acts-clause-attempt g t c = look_attempts _ _ _ c.evaluate.ensures.look

pub within-returns-in_err-value-clause-attempt : goal.within-returns-in_err-value-clause-attempt
within-returns-in_err-value-clause-attempt g t c = attempt_wider _ _ (MayWrite c.args.part.now) (AnyMayWrite (cons c.args.part.now (cons c.args.formula.now nil))) (λ x m. inl m) c.perform.ensures.attempt

pub within-returns-in-Err-clause-attempt : goal.within-returns-in-Err-clause-attempt
within-returns-in-Err-clause-attempt g t c = attempt_wider _ _ (MayWrite c.args.part.now) (AnyMayWrite (cons c.args.part.now (cons c.args.formula.now nil))) (λ x m. inl m) c.perform.ensures.attempt

pub switch-returns-in_err-value-clause-attempt : goal.switch-returns-in_err-value-clause-attempt
switch-returns-in_err-value-clause-attempt g t c = attempt_wider _ _ (MayWrite c.in-Some.part.now) (AnyMayWrite (all c.args.parts.now)) (first_may c.args.parts.now c.in-Some.part.now c.in-Some.others.now (AnyMayWrite (all c.args.parts.now)) c.in-Some.ensures.cases.0 (λ x m. m)) c.perform.ensures.attempt

pub switch-returns-in-Err-clause-attempt : goal.switch-returns-in-Err-clause-attempt
switch-returns-in-Err-clause-attempt g t c = attempt_wider _ _ (MayWrite c.in-Some.part.now) (AnyMayWrite (all c.args.parts.now)) (first_may c.args.parts.now c.in-Some.part.now c.in-Some.others.now (AnyMayWrite (all c.args.parts.now)) c.in-Some.ensures.cases.0 (λ x m. m)) c.perform.ensures.attempt

pub for_all-returns-in_err-value-clause-attempt : goal.for_all-returns-in_err-value-clause-attempt
for_all-returns-in_err-value-clause-attempt g t c = attempt_wider _ _ (MayWrite c.args.table.now) (AnyMayWrite (cons c.args.table.now (all c.args.parts.now))) (λ x m. inl m) c.perform.ensures.attempt

pub for_all-returns-in-Err-clause-attempt : goal.for_all-returns-in-Err-clause-attempt
for_all-returns-in-Err-clause-attempt g t c = attempt_wider _ _ (MayWrite c.args.table.now) (AnyMayWrite (cons c.args.table.now (all c.args.parts.now))) (λ x m. inl m) c.perform.ensures.attempt

pub update_if-returns-in_err-value-clause-attempt : goal.update_if-returns-in_err-value-clause-attempt
update_if-returns-in_err-value-clause-attempt g t c = attempt_wider _ _ (MayWrite c.filter_and_change.result.0.now) (MayWrite (of (top.act (deed.UpdateIf c.args.target)) (all c.args.parts.now))) (first_may c.args.parts.now c.filter_and_change.result.0.now (c.filter_and_change.result.1.now ∷ []) (MayWrite (of (top.act (deed.UpdateIf c.args.target)) (all c.args.parts.now))) c.filter_and_change.ensures (λ x m. inr m)) c.perform.ensures.attempt

pub update_if-returns-in-Err-clause-attempt : goal.update_if-returns-in-Err-clause-attempt
update_if-returns-in-Err-clause-attempt g t c = attempt_wider _ _ (MayWrite c.filter_and_change.result.0.now) (MayWrite (of (top.act (deed.UpdateIf c.args.target)) (all c.args.parts.now))) (first_may c.args.parts.now c.filter_and_change.result.0.now (c.filter_and_change.result.1.now ∷ []) (MayWrite (of (top.act (deed.UpdateIf c.args.target)) (all c.args.parts.now))) c.filter_and_change.ensures (λ x m. inr m)) c.perform.ensures.attempt

pub act_deed-returns-in-UpdateIf-clause-attempt : goal.act_deed-returns-in-UpdateIf-clause-attempt
act_deed-returns-in-UpdateIf-clause-attempt g t c = attempt_same _ _ _ (of (top.act c.args.deed.now) (all c.args.parts.now)) (ap (λ d. of (top.act d) (all c.args.parts.now)) (sym c.in-UpdateIf.is)) c.update_if.ensures.attempt

pub act_deed-returns-in_err-values-in_default-clause-attempt : goal.act_deed-returns-in_err-values-in_default-clause-attempt
act_deed-returns-in_err-values-in_default-clause-attempt g t c = attempt_wider _ _ (AnyMayWrite (all c.args.parts.now)) (MayWrite (of (top.act c.args.deed.now) (all c.args.parts.now))) (λ x m. inr m) c.part_values.ensures.attempt

pub chain-returns-then-is_empty-clause-cut : goal.chain-returns-then-is_empty-clause-cut
chain-returns-then-is_empty-clause-cut g t c =
    on_err_weaker c.perform.result
    (λ k. cutting.parts_cut g.W.World.gives _ _ _ _ _ _ _ _ _ _ (cutting.parts_left (ground g.W.World.gives (g.W.Env.fixed c.args.world.now)) c.args.scope.now c.args.parts.now) c.in-Some.part.now c.in-Some.others.now c.loop-part.rest.now c.loop-part.invariant.attempt.passed.fixed c.loop-part.invariant.scope c.loop-part.invariant.attempt.passed.later c.perform.ensures.attempt.passed.later c.in-Some.ensures.cases.0 c.loop-part.invariant.cut k)
    c.perform.ensures.cut

pub chain-returns-in_err-perform-clause-cut : goal.chain-returns-in_err-perform-clause-cut
chain-returns-in_err-perform-clause-cut g t c =
    cutting.on_any c.from_residual.result
    (cutting.parts_cut g.W.World.gives _ _ _ _ _ _ _ _ _ _ (cutting.parts_left (ground g.W.World.gives (g.W.Env.fixed c.args.world.now)) c.args.scope.now c.args.parts.now) c.in-Some.part.now c.in-Some.others.now c.loop-part.rest.now c.loop-part.invariant.attempt.passed.fixed c.loop-part.invariant.scope c.loop-part.invariant.attempt.passed.later c.perform-in-Some.ensures.attempt.passed.later c.in-Some.ensures.cases.0 c.loop-part.invariant.cut c.in_err-perform.ensures.cut)

pub branches-returns-in_default-split_first-clause-cut : goal.branches-returns-in_default-split_first-clause-cut
branches-returns-in_default-split_first-clause-cut g t c =
    on_err_weaker c.perform.result
    (λ k. cutting.branches_cut g.W.World.gives _ _ _ _ _ _ _ _ _ _ (cutting.branches_left decision_of (ground g.W.World.gives (g.W.Env.fixed c.args.world.now)) c.args.scope.now c.args.parts.now) c.in-Some.part.now c.in-Some.others.now c.loop-part.rest.now c.loop-part.invariant.attempt.passed.fixed c.loop-part.invariant.scope c.loop-part.invariant.attempt.passed.later c.perform.ensures.attempt.passed.later c.in-Some.ensures.cases.0 decision_of c.loop-part.invariant.cut k)
    c.perform.ensures.cut

pub branches-returns-in_err-value-clause-cut : goal.branches-returns-in_err-value-clause-cut
branches-returns-in_err-value-clause-cut g t c =
    cutting.on_any c.from_residual.result
    (cutting.branches_cut g.W.World.gives _ _ _ _ _ _ _ _ _ _ (cutting.branches_left decision_of (ground g.W.World.gives (g.W.Env.fixed c.args.world.now)) c.args.scope.now c.args.parts.now) c.in-Some.part.now c.in-Some.others.now c.loop-part.rest.now c.loop-part.invariant.attempt.passed.fixed c.loop-part.invariant.scope c.loop-part.invariant.attempt.passed.later c.perform-in-Some.ensures.attempt.passed.later c.in-Some.ensures.cases.0 decision_of c.loop-part.invariant.cut c.in_err-value.ensures.cut)

pub branches-returns-in-Met-clause-cut : goal.branches-returns-in-Met-clause-cut
branches-returns-in-Met-clause-cut g t c =
    on_err_weaker c.perform-in-Met.result
    (λ k. cutting.branch_cut g.W.World.gives _ _ _ _ _ _ _ _ _ _ (cutting.branches_left decision_of (ground g.W.World.gives (g.W.Env.fixed c.args.world.now)) c.args.scope.now c.args.parts.now) c.in-Some-split_first.branch.now (c.perform-in-Some.ensures.attempt.passed.fixed ∙ c.loop-part.invariant.attempt.passed.fixed) (c.perform-in-Some.ensures.scope ∙ c.loop-part.invariant.scope) (passed_on _ _ _ c.loop-part.invariant.attempt.passed c.perform-in-Some.ensures.attempt.passed).later c.perform-in-Met.ensures.attempt.passed.later
    (cutting.branch_met g.W.World.gives _ _ _ _ _ _ _ _ _ _ (cutting.branches_left decision_of (ground g.W.World.gives (g.W.Env.fixed c.args.world.now)) c.args.scope.now c.args.parts.now) c.in-Some.part.now c.in-Some.others.now c.loop-part.rest.now c.loop-part.invariant.attempt.passed.fixed c.loop-part.invariant.scope c.loop-part.invariant.attempt.passed.later c.perform-in-Some.ensures.attempt.passed.later c.in-Some.ensures.cases.0 (view c.in_ok-value.value) decision_of c.in-Some-split_first.branch.now c.in-Some-split_first.beyond.now c.in-Some-split_first.ensures.cases.0 (sym c.decide.ensures ∙ c.in-Met.is) c.loop-part.invariant.cut c.in_ok-value.ensures.done) k)
    c.perform-in-Met.ensures.cut

pub matches-returns-in_default-split_first-clause-cut : goal.matches-returns-in_default-split_first-clause-cut
matches-returns-in_default-split_first-clause-cut g t c =
    on_err_weaker c.perform.result
    (λ k. cutting.branches_cut g.W.World.gives _ _ _ _ _ _ _ _ _ _ (cutting.branches_left (switch_decision (view c.args.wanted)) (ground g.W.World.gives (g.W.Env.fixed c.args.world.now)) c.args.scope.now c.args.parts.now) c.in-Some.part.now c.in-Some.others.now c.loop-part.rest.now c.loop-part.invariant.attempt.passed.fixed c.loop-part.invariant.scope c.loop-part.invariant.attempt.passed.later c.perform.ensures.attempt.passed.later c.in-Some.ensures.cases.0 (switch_decision (view c.args.wanted)) c.loop-part.invariant.cut k)
    c.perform.ensures.cut

pub matches-returns-in_err-value-clause-cut : goal.matches-returns-in_err-value-clause-cut
matches-returns-in_err-value-clause-cut g t c =
    cutting.on_any c.from_residual.result
    (cutting.branches_cut g.W.World.gives _ _ _ _ _ _ _ _ _ _ (cutting.branches_left (switch_decision (view c.args.wanted)) (ground g.W.World.gives (g.W.Env.fixed c.args.world.now)) c.args.scope.now c.args.parts.now) c.in-Some.part.now c.in-Some.others.now c.loop-part.rest.now c.loop-part.invariant.attempt.passed.fixed c.loop-part.invariant.scope c.loop-part.invariant.attempt.passed.later c.perform-in-Some.ensures.attempt.passed.later c.in-Some.ensures.cases.0 (switch_decision (view c.args.wanted)) c.loop-part.invariant.cut c.in_err-value.ensures.cut)

pub matches-returns-in-Met-clause-cut : goal.matches-returns-in-Met-clause-cut
matches-returns-in-Met-clause-cut g t c =
    on_err_weaker c.perform-in-Met.result
    (λ k. cutting.branch_cut g.W.World.gives _ _ _ _ _ _ _ _ _ _ (cutting.branches_left (switch_decision (view c.args.wanted)) (ground g.W.World.gives (g.W.Env.fixed c.args.world.now)) c.args.scope.now c.args.parts.now) c.in-Some-split_first.branch.now (c.perform-in-Some.ensures.attempt.passed.fixed ∙ c.loop-part.invariant.attempt.passed.fixed) (c.perform-in-Some.ensures.scope ∙ c.loop-part.invariant.scope) (passed_on _ _ _ c.loop-part.invariant.attempt.passed c.perform-in-Some.ensures.attempt.passed).later c.perform-in-Met.ensures.attempt.passed.later
    (cutting.branch_met g.W.World.gives _ _ _ _ _ _ _ _ _ _ (cutting.branches_left (switch_decision (view c.args.wanted)) (ground g.W.World.gives (g.W.Env.fixed c.args.world.now)) c.args.scope.now c.args.parts.now) c.in-Some.part.now c.in-Some.others.now c.loop-part.rest.now c.loop-part.invariant.attempt.passed.fixed c.loop-part.invariant.scope c.loop-part.invariant.attempt.passed.later c.perform-in-Some.ensures.attempt.passed.later c.in-Some.ensures.cases.0 (view c.in_ok-value.value) (switch_decision (view c.args.wanted)) c.in-Some-split_first.branch.now c.in-Some-split_first.beyond.now c.in-Some-split_first.ensures.cases.0 (sym (ap (λ w. switch_decision (view w) (view c.in_ok-value.value)) c.loop-part.invariant.wanted) ∙ sym c.decide_match.ensures ∙ c.in-Met.is) c.loop-part.invariant.cut c.in_ok-value.ensures.done) k)
    c.perform-in-Met.ensures.cut

pub recover-returns-in_default-split_first-clause-cut : goal.recover-returns-in_default-split_first-clause-cut
recover-returns-in_default-split_first-clause-cut g t c =
    on_err_weaker c.perform.result
    (λ k. cutting.recovery_cut g.W.World.gives _ _ _ _ _ _ _ _ _ _ (cutting.recovery_left (ground g.W.World.gives (g.W.Env.fixed c.args.world.now)) c.args.scope.now c.args.parts.now) c.in-Some.part.now c.in-Some.others.now c.loop-part.rest.now c.loop-part.invariant.attempt.passed.fixed c.loop-part.invariant.scope c.loop-part.invariant.attempt.passed.later c.perform.ensures.attempt.passed.later c.in-Some.ensures.cases.0 c.loop-part.invariant.cut k)
    c.perform.ensures.cut

pub recover-returns-in_err-value-clause-cut : goal.recover-returns-in_err-value-clause-cut
recover-returns-in_err-value-clause-cut g t c =
    cutting.on_any c.from_residual.result
    (cutting.recovery_cut g.W.World.gives _ _ _ _ _ _ _ _ _ _ (cutting.recovery_left (ground g.W.World.gives (g.W.Env.fixed c.args.world.now)) c.args.scope.now c.args.parts.now) c.in-Some.part.now c.in-Some.others.now c.loop-part.rest.now c.loop-part.invariant.attempt.passed.fixed c.loop-part.invariant.scope c.loop-part.invariant.attempt.passed.later c.perform-in-Some.ensures.attempt.passed.later c.in-Some.ensures.cases.0 c.loop-part.invariant.cut c.in_err-value.ensures.cut)

pub recover-returns-in-Err-clause-cut : goal.recover-returns-in-Err-clause-cut
recover-returns-in-Err-clause-cut g t c =
    on_err_weaker c.catch_error.result
    (λ k. cutting.branch_cut g.W.World.gives _ _ _ _ _ _ _ _ _ _ (cutting.recovery_left (ground g.W.World.gives (g.W.Env.fixed c.args.world.now)) c.args.scope.now c.args.parts.now) c.in-Some-split_first.fallback.now (c.perform-in-Some.ensures.attempt.passed.fixed ∙ c.loop-part.invariant.attempt.passed.fixed) (ap (λ h. caught_in h c.in-Err.fault.kind c.in-Err.fault.message) (c.perform-in-Some.ensures.scope ∙ c.loop-part.invariant.scope)) (passed_on _ _ _ c.loop-part.invariant.attempt.passed c.perform-in-Some.ensures.attempt.passed).later c.catch_error.ensures.attempt.passed.later
    (cutting.recovery_falls g.W.World.gives _ _ _ _ _ _ _ _ _ _ (cutting.recovery_left (ground g.W.World.gives (g.W.Env.fixed c.args.world.now)) c.args.scope.now c.args.parts.now) c.in-Some.part.now c.in-Some.others.now c.loop-part.rest.now c.loop-part.invariant.attempt.passed.fixed c.loop-part.invariant.scope c.loop-part.invariant.attempt.passed.later c.perform-in-Some.ensures.attempt.passed.later c.in-Some.ensures.cases.0 (view c.in_ok-value.value) c.in-Some-split_first.fallback.now c.in-Some-split_first.beyond.now c.in-Some-split_first.ensures.cases.0 c.in-Err.fault.kind c.in-Err.fault.message c.in-Err.ensures c.loop-part.invariant.cut c.in_ok-value.ensures.done) k)
    c.catch_error.ensures.cut

pub part_values-returns-in_err-value-clause-cut : goal.part_values-returns-in_err-value-clause-cut
part_values-returns-in_err-value-clause-cut g t c =
    cutting.on_any c.from_residual.result
    (cutting.parts_cut g.W.World.gives _ _ _ _ _ _ _ _ _ _ (cutting.parts_left (ground g.W.World.gives (g.W.Env.fixed c.args.world.now)) c.args.scope.now c.args.parts.now) c.in-Some.part.now c.in-Some.others.now c.loop-part.rest.now c.loop-part.invariant.attempt.passed.fixed c.loop-part.invariant.scope c.loop-part.invariant.attempt.passed.later c.perform.ensures.attempt.passed.later c.in-Some.ensures.cases.0 c.loop-part.invariant.cut c.in_err-value.ensures.cut)

pub part_values-returns-in_err-push-clause-cut : goal.part_values-returns-in_err-push-clause-cut
part_values-returns-in_err-push-clause-cut g t c =
    cutting.on_any c.from_residual-in_err-push.result
    (cutting.cut_here (SilenceCause (g.W.Env.marks c.args.world.now) (g.W.Env.marks c.perform.new.world)) (g.W.World.state c.args.world.now) (g.W.World.state c.perform.new.world) (cutting.parts_left (ground g.W.World.gives (g.W.Env.fixed c.args.world.now)) c.args.scope.now c.in-Some.others.now) (cutting.parts_left (ground g.W.World.gives (g.W.Env.fixed c.args.world.now)) c.args.scope.now c.args.parts.now) (λ s. cutting.parts_unbegun (ground g.W.World.gives (g.W.Env.fixed c.args.world.now)) c.in-Some.others.now c.args.scope.now s)
    (cutting.parts_go g.W.World.gives _ _ _ _ _ _ _ _ _ _ (cutting.parts_left (ground g.W.World.gives (g.W.Env.fixed c.args.world.now)) c.args.scope.now c.args.parts.now) c.in-Some.part.now c.in-Some.others.now c.loop-part.rest.now c.loop-part.invariant.attempt.passed.fixed c.loop-part.invariant.scope c.loop-part.invariant.attempt.passed.later c.perform.ensures.attempt.passed.later c.in-Some.ensures.cases.0 (view c.in_ok-value.value) c.loop-part.invariant.cut c.in_ok-value.ensures.done))

pub each-returns-in_err-value-clause-cut : goal.each-returns-in_err-value-clause-cut
each-returns-in_err-value-clause-cut g t c =
    cutting.on_any c.from_residual-in_err-value.result
    (cutting.each_cut g.W.World.gives _ _ _ _ _ _ _ _ _ _ (cutting.each_left (ground g.W.World.gives (g.W.Env.fixed c.args.world.now)) c.args.scope.now c.args.formula.now c.args.rows.now) c.args.formula.now c.in-Some.row.now (record_of c.in_ok-copy.field-0) c.in-Some.others.now c.loop-row.rest.now c.loop-row.invariant.attempt.passed.fixed c.loop-row.invariant.scope c.loop-row.invariant.attempt.passed.later c.in_scope.ensures.attempt.passed.later c.in-Some.ensures.cases.0 (ap record_of c.in_ok-copy.ensures) c.loop-row.invariant.cut c.in_err-value.ensures.cut)

pub each-returns-in_err-push-clause-cut : goal.each-returns-in_err-push-clause-cut
each-returns-in_err-push-clause-cut g t c =
    cutting.on_any c.from_residual-in_err-push.result
    (cutting.cut_here (SilenceCause (g.W.Env.marks c.args.world.now) (g.W.Env.marks c.in_scope.new.world)) (g.W.World.state c.args.world.now) (g.W.World.state c.in_scope.new.world) (cutting.each_left (ground g.W.World.gives (g.W.Env.fixed c.args.world.now)) c.args.scope.now c.args.formula.now c.in-Some.others.now) (cutting.each_left (ground g.W.World.gives (g.W.Env.fixed c.args.world.now)) c.args.scope.now c.args.formula.now c.args.rows.now) (λ s. cutting.each_unbegun (ground g.W.World.gives (g.W.Env.fixed c.args.world.now)) c.args.formula.now c.in-Some.others.now c.args.scope.now s)
    (cutting.each_go g.W.World.gives _ _ _ _ _ _ _ _ _ _ (cutting.each_left (ground g.W.World.gives (g.W.Env.fixed c.args.world.now)) c.args.scope.now c.args.formula.now c.args.rows.now) c.args.formula.now c.in-Some.row.now (record_of c.in_ok-copy.field-0) c.in-Some.others.now c.loop-row.rest.now c.loop-row.invariant.attempt.passed.fixed c.loop-row.invariant.scope c.loop-row.invariant.attempt.passed.later c.in_scope.ensures.attempt.passed.later c.in-Some.ensures.cases.0 (ap record_of c.in_ok-copy.ensures) (view c.in_ok-value.value) c.loop-row.invariant.cut c.in_ok-value.ensures.done))

pub each-returns-in_err-copy-clause-cut : goal.each-returns-in_err-copy-clause-cut
each-returns-in_err-copy-clause-cut g t c =
    cutting.on_any c.from_residual.result
    (cutting.cut_here (SilenceCause (g.W.Env.marks c.args.world.now) (g.W.Env.marks c.loop-row.world)) (g.W.World.state c.args.world.now) (g.W.World.state c.loop-row.world) (cutting.each_left (ground g.W.World.gives (g.W.Env.fixed c.args.world.now)) c.args.scope.now c.args.formula.now c.loop-row.rest.now) (cutting.each_left (ground g.W.World.gives (g.W.Env.fixed c.args.world.now)) c.args.scope.now c.args.formula.now c.args.rows.now) (λ s. cutting.each_unbegun (ground g.W.World.gives (g.W.Env.fixed c.args.world.now)) c.args.formula.now c.loop-row.rest.now c.args.scope.now s) c.loop-row.invariant.cut)

pub node-returns-in_err-value-in-Dot-clause-cut : goal.node-returns-in_err-value-in-Dot-clause-cut
node-returns-in_err-value-in-Dot-clause-cut g t c =
    cutting.on_any c.from_residual.result
    (cutting.one_cut (SilenceCause (g.W.Env.marks c.args.world.now) (g.W.Env.marks c.perform.new.world)) (ground g.W.World.gives (g.W.Env.fixed c.args.world.now)) _ _ _ _ c.args.scope.now (g.W.World.state c.args.world.now) (g.W.World.state c.perform.new.world) (sym (ap core_branch c.in-Dot.is) ∙ c.core.view_is) c.deref-in-Dot.ensures c.requires.acts (λ s u q. q) c.in_err-value-in-Dot.ensures.cut)

pub node-returns-in_err-field_of-in-Dot-clause-cut : goal.node-returns-in_err-field_of-in-Dot-clause-cut
node-returns-in_err-field_of-in-Dot-clause-cut g t c =
    cutting.on_any c.from_residual-in_err-field_of-in-Dot.result
    (cutting.one_behind (SilenceCause (g.W.Env.marks c.args.world.now) (g.W.Env.marks c.perform.new.world)) (ground g.W.World.gives (g.W.Env.fixed c.args.world.now)) _ _ _ _ (view c.in_ok-value-in-Dot.value) c.args.scope.now (g.W.World.state c.args.world.now) (g.W.World.state c.perform.new.world) (sym (ap core_branch c.in-Dot.is) ∙ c.core.view_is) c.deref-in-Dot.ensures c.requires.acts (λ s u q. q) c.in_ok-value-in-Dot.ensures.done)

pub node-returns-in_err-value-in-Coerce-clause-cut : goal.node-returns-in_err-value-in-Coerce-clause-cut
node-returns-in_err-value-in-Coerce-clause-cut g t c =
    cutting.on_any c.from_residual-in_err-value-in-Coerce.result
    (cutting.one_cut (SilenceCause (g.W.Env.marks c.args.world.now) (g.W.Env.marks c.perform-in-Coerce.new.world)) (ground g.W.World.gives (g.W.Env.fixed c.args.world.now)) _ _ _ _ c.args.scope.now (g.W.World.state c.args.world.now) (g.W.World.state c.perform-in-Coerce.new.world) (sym (ap core_branch c.in-Coerce.is) ∙ c.core.view_is) c.deref-in-Coerce.ensures c.requires.acts (λ s u q. q) c.in_err-value-in-Coerce.ensures.cut)

pub node-returns-in_err-coerce-in-Coerce-clause-cut : goal.node-returns-in_err-coerce-in-Coerce-clause-cut
node-returns-in_err-coerce-in-Coerce-clause-cut g t c =
    cutting.on_any c.from_residual-in_err-coerce-in-Coerce.result
    (cutting.one_behind (SilenceCause (g.W.Env.marks c.args.world.now) (g.W.Env.marks c.perform-in-Coerce.new.world)) (ground g.W.World.gives (g.W.Env.fixed c.args.world.now)) _ _ _ _ (view c.in_ok-value-in-Coerce.value) c.args.scope.now (g.W.World.state c.args.world.now) (g.W.World.state c.perform-in-Coerce.new.world) (sym (ap core_branch c.in-Coerce.is) ∙ c.core.view_is) c.deref-in-Coerce.ensures c.requires.acts (λ s u q. q) c.in_ok-value-in-Coerce.ensures.done)

pub node-returns-in_err-values-in-List-clause-cut : goal.node-returns-in_err-values-in-List-clause-cut
node-returns-in_err-values-in-List-clause-cut g t c =
    cutting.on_any c.from_residual-in_err-values-in-List.result
    (cutting.node_cut (SilenceCause (g.W.Env.marks c.args.world.now) (g.W.Env.marks c.part_values.new.world)) (ground g.W.World.gives (g.W.Env.fixed c.args.world.now)) _ (all c.as_slice-in-List.result.now) c.args.core.now c.args.scope.now (g.W.World.state c.args.world.now) (g.W.World.state c.part_values.new.world) (heads.parts_are _ _ c.as_slice-in-List.result.now c.args.core.now (sym (ap core_branch c.in-List.is) ∙ c.core.view_is) c.as_slice-in-List.ensures) c.requires.acts c.in_err-values-in-List.ensures.cut)

pub node-returns-in_err-list-in-List-clause-cut : goal.node-returns-in_err-list-in-List-clause-cut
node-returns-in_err-list-in-List-clause-cut g t c =
    cutting.on_any c.from_residual-in_err-list-in-List.result
    (cutting.node_cut (SilenceCause (g.W.Env.marks c.args.world.now) (g.W.Env.marks c.part_values.new.world)) (ground g.W.World.gives (g.W.Env.fixed c.args.world.now)) _ (all c.as_slice-in-List.result.now) c.args.core.now c.args.scope.now (g.W.World.state c.args.world.now) (g.W.World.state c.part_values.new.world) (heads.parts_are _ _ c.as_slice-in-List.result.now c.args.core.now (sym (ap core_branch c.in-List.is) ∙ c.core.view_is) c.as_slice-in-List.ensures) c.requires.acts
    (cutting.list_behind (SilenceCause (g.W.Env.marks c.args.world.now) (g.W.Env.marks c.part_values.new.world)) (ground g.W.World.gives (g.W.Env.fixed c.args.world.now)) c.as_slice-in-List.result.now (map view c.in_ok-values-in-List.values.items) c.args.scope.now (g.W.World.state c.args.world.now) (g.W.World.state c.part_values.new.world) c.in_ok-values-in-List.ensures.done))

pub perform-returns-else-acts-clause-cut : goal.perform-returns-else-acts-clause-cut
perform-returns-else-acts-clause-cut g t c =
    cutting.on_any c.evaluate.result (cutting.cut_staying (SilenceCause (g.W.Env.marks c.args.world.now) (g.W.Env.marks c.evaluate.new.world)) (ground g.W.World.gives (g.W.Env.fixed c.args.world.now)) c.args.core.now c.args.scope.now (g.W.World.state c.args.world.now) (g.W.World.state c.evaluate.new.world) c.evaluate.ensures.look.stays)

pub within-returns-in_err-value-clause-cut : goal.within-returns-in_err-value-clause-cut
within-returns-in_err-value-clause-cut g t c =
    cutting.on_any c.from_residual.result
    (cutting.within_first (ground g.W.World.gives (g.W.Env.fixed c.args.world.now)) c.args.scope.now (SilenceCause (g.W.Env.marks c.args.world.now) (g.W.Env.marks c.perform.new.world)) (g.W.World.state c.args.world.now) (g.W.World.state c.perform.new.world) c.args.part.now c.in_err-value.ensures.cut c.args.formula.now)

pub within-returns-in-Ok-clause-cut : goal.within-returns-in-Ok-clause-cut
within-returns-in-Ok-clause-cut g t c =
    on_err_weaker c.in_scope.result
    (λ k. cutting.within_then (ground g.W.World.gives (g.W.Env.fixed c.args.world.now)) c.args.scope.now _ _ _ _ _ _ c.args.part.now (view c.in_ok-value.value) c.perform.ensures.attempt.passed.later c.in_scope.ensures.attempt.passed.later c.in-Ok.ensures.1 c.in_ok-value.ensures.done c.args.formula.now
    (subst (λ z. MayFallSilent (SilenceCause (g.W.Env.marks c.perform.new.world) (g.W.Env.marks c.in_scope.new.world)) (IsCutOff (ground g.W.World.gives (g.W.Env.fixed c.args.world.now)) c.args.formula.now (inner c.args.scope.now z)) (g.W.World.state c.perform.new.world) (g.W.World.state c.in_scope.new.world)) c.in-Ok.ensures.0
    (steps.back (λ f h. MayFallSilent (SilenceCause (g.W.Env.marks c.perform.new.world) (g.W.Env.marks c.in_scope.new.world)) (IsCutOff (ground g.W.World.gives f) c.args.formula.now (inner h (view c.in-Ok.row))) (g.W.World.state c.perform.new.world) (g.W.World.state c.in_scope.new.world)) _ _ _ _ c.perform.ensures.attempt.passed.fixed c.perform.ensures.scope k)))
    c.in_scope.ensures.cut

pub switch-returns-in_err-value-clause-cut : goal.switch-returns-in_err-value-clause-cut
switch-returns-in_err-value-clause-cut g t c =
    cutting.on_any c.from_residual.result
    (subst (λ (ts : List Term). MayFallSilent (SilenceCause (g.W.Env.marks c.args.world.now) (g.W.Env.marks c.perform.new.world)) (IsSwitchCut (parts_of (ground g.W.World.gives (g.W.Env.fixed c.args.world.now)) (all ts)) c.args.scope.now) (g.W.World.state c.args.world.now) (g.W.World.state c.perform.new.world)) (sym c.in-Some.ensures.cases.0)
    (cutting.switch_first (ground g.W.World.gives (g.W.Env.fixed c.args.world.now)) c.args.scope.now (SilenceCause (g.W.Env.marks c.args.world.now) (g.W.Env.marks c.perform.new.world)) (g.W.World.state c.args.world.now) (g.W.World.state c.perform.new.world) c.in-Some.part.now c.in_err-value.ensures.cut c.in-Some.others.now))

pub switch-returns-in-Ok-clause-cut : goal.switch-returns-in-Ok-clause-cut
switch-returns-in-Ok-clause-cut g t c =
    on_err_weaker c.matches.result
    (λ k. subst (λ (ts : List Term). MayFallSilent (SilenceCause (g.W.Env.marks c.args.world.now) (g.W.Env.marks c.matches.new.world)) (IsSwitchCut (parts_of (ground g.W.World.gives (g.W.Env.fixed c.args.world.now)) (all ts)) c.args.scope.now) (g.W.World.state c.args.world.now) (g.W.World.state c.matches.new.world)) (sym c.in-Some.ensures.cases.0)
    (cutting.switch_then (ground g.W.World.gives (g.W.Env.fixed c.args.world.now)) c.args.scope.now _ _ _ _ _ _ c.in-Some.part.now (view c.in_ok-value.value) c.perform.ensures.attempt.passed.later c.matches.ensures.attempt.passed.later c.in-Ok.ensures.1 c.in_ok-value.ensures.done c.in-Some.others.now
    (subst (λ z. MayFallSilent (SilenceCause (g.W.Env.marks c.perform.new.world) (g.W.Env.marks c.matches.new.world)) (IsBranchCut (switch_decision z) (parts_of (ground g.W.World.gives (g.W.Env.fixed c.args.world.now)) (all c.in-Some.others.now)) c.args.scope.now) (g.W.World.state c.perform.new.world) (g.W.World.state c.matches.new.world)) c.in-Ok.ensures.0
    (steps.back (λ f h. MayFallSilent (SilenceCause (g.W.Env.marks c.perform.new.world) (g.W.Env.marks c.matches.new.world)) (IsBranchCut (switch_decision (view c.in-Ok.wanted)) (parts_of (ground g.W.World.gives f) (all c.in-Some.others.now)) h) (g.W.World.state c.perform.new.world) (g.W.World.state c.matches.new.world)) _ _ _ _ c.perform.ensures.attempt.passed.fixed c.perform.ensures.scope k))))
    c.matches.ensures.cut

pub for_all-returns-in_err-value-clause-cut : goal.for_all-returns-in_err-value-clause-cut
for_all-returns-in_err-value-clause-cut g t c =
    cutting.on_any c.from_residual.result
    (subst (λ (ts : List Term). MayFallSilent (SilenceCause (g.W.Env.marks c.args.world.now) (g.W.Env.marks c.perform.new.world)) (IsForAllCut (part_of (ground g.W.World.gives (g.W.Env.fixed c.args.world.now)) c.args.table.now ∷ parts_of (ground g.W.World.gives (g.W.Env.fixed c.args.world.now)) (all ts)) c.args.scope.now) (g.W.World.state c.args.world.now) (g.W.World.state c.perform.new.world)) (sym (formula_is (g.W.Env.fixed c.args.world.now).types c.args.scope.now c.args.table.now c.args.parts.now c.requires.0 c.requires.1 c.in-Some.formula.now _ c.in-Some.ensures.cases.0))
    (cutting.for_all_first (ground g.W.World.gives (g.W.Env.fixed c.args.world.now)) c.args.scope.now (SilenceCause (g.W.Env.marks c.args.world.now) (g.W.Env.marks c.perform.new.world)) (g.W.World.state c.args.world.now) (g.W.World.state c.perform.new.world) c.args.table.now c.in_err-value.ensures.cut c.in-Some.formula.now))

pub for_all-returns-in_err-values-in-Ok-clause-cut : goal.for_all-returns-in_err-values-in-Ok-clause-cut
for_all-returns-in_err-values-in-Ok-clause-cut g t c =
    cutting.on_any c.from_residual-in_err-values-in-Ok.result
    (subst (λ (ts : List Term). MayFallSilent (SilenceCause (g.W.Env.marks c.args.world.now) (g.W.Env.marks c.each.new.world)) (IsForAllCut (part_of (ground g.W.World.gives (g.W.Env.fixed c.args.world.now)) c.args.table.now ∷ parts_of (ground g.W.World.gives (g.W.Env.fixed c.args.world.now)) (all ts)) c.args.scope.now) (g.W.World.state c.args.world.now) (g.W.World.state c.each.new.world)) (sym (formula_is (g.W.Env.fixed c.args.world.now).types c.args.scope.now c.args.table.now c.args.parts.now c.requires.0 c.requires.1 c.in-Some.formula.now _ c.in-Some.ensures.cases.0))
    (cutting.for_all_then (ground g.W.World.gives (g.W.Env.fixed c.args.world.now)) c.args.scope.now _ _ _ _ _ _ c.args.table.now (view c.in_ok-value.value) c.perform.ensures.attempt.passed.later c.each.ensures.attempt.passed.later (is_no_error _ c.in-Ok.ensures.1) c.in_ok-value.ensures.done c.in-Some.formula.now c.as_slice.result.now (c.as_slice.ensures ∙ c.in-Ok.ensures.0)
    (steps.back (λ f h. MayFallSilent (SilenceCause (g.W.Env.marks c.perform.new.world) (g.W.Env.marks c.each.new.world)) (cutting.each_left (ground g.W.World.gives f) h c.in-Some.formula.now c.as_slice.result.now) (g.W.World.state c.perform.new.world) (g.W.World.state c.each.new.world)) _ _ _ _ c.perform.ensures.attempt.passed.fixed c.perform.ensures.scope c.in_err-values-in-Ok.ensures.cut)))

pub for_all-returns-in_err-for_all-in-Ok-clause-cut : goal.for_all-returns-in_err-for_all-in-Ok-clause-cut
for_all-returns-in_err-for_all-in-Ok-clause-cut g t c =
    cutting.on_any c.from_residual-in_err-for_all-in-Ok.result
    (subst (λ (ts : List Term). MayFallSilent (SilenceCause (g.W.Env.marks c.args.world.now) (g.W.Env.marks c.each.new.world)) (IsForAllCut (part_of (ground g.W.World.gives (g.W.Env.fixed c.args.world.now)) c.args.table.now ∷ parts_of (ground g.W.World.gives (g.W.Env.fixed c.args.world.now)) (all ts)) c.args.scope.now) (g.W.World.state c.args.world.now) (g.W.World.state c.each.new.world)) (sym (formula_is (g.W.Env.fixed c.args.world.now).types c.args.scope.now c.args.table.now c.args.parts.now c.requires.0 c.requires.1 c.in-Some.formula.now _ c.in-Some.ensures.cases.0))
    (cutting.for_all_behind (ground g.W.World.gives (g.W.Env.fixed c.args.world.now)) c.args.scope.now _ _ _ _ _ _ c.args.table.now (view c.in_ok-value.value) c.perform.ensures.attempt.passed.later c.each.ensures.attempt.passed.later (is_no_error _ c.in-Ok.ensures.1) c.in_ok-value.ensures.done c.in-Some.formula.now c.as_slice.result.now (map view c.in_ok-values-in-Ok.values.items) (c.as_slice.ensures ∙ c.in-Ok.ensures.0)
    (steps.back (λ f h. MayFallSilent (SilenceCause (g.W.Env.marks c.perform.new.world) (g.W.Env.marks c.each.new.world)) (λ s u. PerformsEach (performing (ground g.W.World.gives f) c.in-Some.formula.now) h c.as_slice.result.now s (map view c.in_ok-values-in-Ok.values.items) u) (g.W.World.state c.perform.new.world) (g.W.World.state c.each.new.world)) _ _ _ _ c.perform.ensures.attempt.passed.fixed c.perform.ensures.scope c.in_ok-values-in-Ok.ensures.done)))

pub update_if-returns-in_err-value-clause-cut : goal.update_if-returns-in_err-value-clause-cut
update_if-returns-in_err-value-clause-cut g t c =
    cutting.on_any c.from_residual.result
    (subst (λ (ts : List Term). MayFallSilent (SilenceCause (g.W.Env.marks c.args.world.now) (g.W.Env.marks c.perform.new.world)) (IsUpdateIfCut (ground g.W.World.gives (g.W.Env.fixed c.args.world.now)) c.args.target (parts_of (ground g.W.World.gives (g.W.Env.fixed c.args.world.now)) (all ts)) c.args.scope.now) (g.W.World.state c.args.world.now) (g.W.World.state c.perform.new.world)) (sym c.filter_and_change.ensures)
    (cutting.update_first (ground g.W.World.gives (g.W.Env.fixed c.args.world.now)) c.args.scope.now (SilenceCause (g.W.Env.marks c.args.world.now) (g.W.Env.marks c.perform.new.world)) (g.W.World.state c.args.world.now) (g.W.World.state c.perform.new.world) c.filter_and_change.result.0.now c.in_err-value.ensures.cut c.args.target c.filter_and_change.result.1.now))

pub update_if-returns-in_err-changes-in-Ok-clause-cut : goal.update_if-returns-in_err-changes-in-Ok-clause-cut
update_if-returns-in_err-changes-in-Ok-clause-cut g t c =
    cutting.on_any c.from_residual-in_err-changes-in-Ok.result
    (subst (λ (ts : List Term). MayFallSilent (SilenceCause (g.W.Env.marks c.args.world.now) (g.W.Env.marks c.each.new.world)) (IsUpdateIfCut (ground g.W.World.gives (g.W.Env.fixed c.args.world.now)) c.args.target (parts_of (ground g.W.World.gives (g.W.Env.fixed c.args.world.now)) (all ts)) c.args.scope.now) (g.W.World.state c.args.world.now) (g.W.World.state c.each.new.world)) (sym c.filter_and_change.ensures)
    (cutting.update_then (ground g.W.World.gives (g.W.Env.fixed c.args.world.now)) c.args.scope.now _ _ _ _ _ _ c.filter_and_change.result.0.now (view c.in_ok-value.value) c.perform.ensures.attempt.passed.later c.each.ensures.attempt.passed.later (is_no_error _ c.in-Ok.ensures.1) c.in_ok-value.ensures.done c.args.target c.filter_and_change.result.1.now c.as_slice-kept.result.now (c.as_slice-kept.ensures ∙ c.in-Ok.ensures.0)
    (cutting.changes_first (SilenceCause (g.W.Env.marks c.perform.new.world) (g.W.Env.marks c.each.new.world)) (ground g.W.World.gives (g.W.Env.fixed c.args.world.now)) c.args.target c.filter_and_change.result.1.now c.args.scope.now c.as_slice-kept.result.now (g.W.World.state c.perform.new.world) (g.W.World.state c.each.new.world) (steps.back (λ f h. MayFallSilent (SilenceCause (g.W.Env.marks c.perform.new.world) (g.W.Env.marks c.each.new.world)) (cutting.each_left (ground g.W.World.gives f) h c.filter_and_change.result.1.now c.as_slice-kept.result.now) (g.W.World.state c.perform.new.world) (g.W.World.state c.each.new.world)) _ _ _ _ c.perform.ensures.attempt.passed.fixed c.perform.ensures.scope c.in_err-changes-in-Ok.ensures.cut))))

pub update_if-returns-in_ok-changes-in-Ok-clause-cut : goal.update_if-returns-in_ok-changes-in-Ok-clause-cut
update_if-returns-in_ok-changes-in-Ok-clause-cut g t c =
    on_err_weaker c.update.result
    (λ k. subst (λ (ts : List Term). MayFallSilent (SilenceCause (g.W.Env.marks c.args.world.now) (g.W.Env.marks c.update.new.world)) (IsUpdateIfCut (ground g.W.World.gives (g.W.Env.fixed c.args.world.now)) c.args.target (parts_of (ground g.W.World.gives (g.W.Env.fixed c.args.world.now)) (all ts)) c.args.scope.now) (g.W.World.state c.args.world.now) (g.W.World.state c.update.new.world)) (sym c.filter_and_change.ensures)
    (cutting.update_then (ground g.W.World.gives (g.W.Env.fixed c.args.world.now)) c.args.scope.now _ _ _ _ _ _ c.filter_and_change.result.0.now (view c.in_ok-value.value) c.perform.ensures.attempt.passed.later (passed_on _ _ _ c.each.ensures.attempt.passed c.update.ensures.attempt.passed).later (is_no_error _ c.in-Ok.ensures.1) c.in_ok-value.ensures.done c.args.target c.filter_and_change.result.1.now c.as_slice-kept.result.now (c.as_slice-kept.ensures ∙ c.in-Ok.ensures.0)
    (cutting.changes_then (ground g.W.World.gives (g.W.Env.fixed c.args.world.now)) c.args.target c.filter_and_change.result.1.now c.args.scope.now c.as_slice-kept.result.now (map view c.in_ok-changes-in-Ok.changes.items) _ _ _ _ _ _ c.each.ensures.attempt.passed.later c.update.ensures.attempt.passed.later (steps.back (λ f h. MayFallSilent (SilenceCause (g.W.Env.marks c.perform.new.world) (g.W.Env.marks c.each.new.world)) (λ s u. PerformsEach (performing (ground g.W.World.gives f) c.filter_and_change.result.1.now) h c.as_slice-kept.result.now s (map view c.in_ok-changes-in-Ok.changes.items) u) (g.W.World.state c.perform.new.world) (g.W.World.state c.each.new.world)) _ _ _ _ c.perform.ensures.attempt.passed.fixed c.perform.ensures.scope c.in_ok-changes-in-Ok.ensures.done)
    (subst (λ (f : Fixed). MayFallSilent (SilenceCause (g.W.Env.marks c.each.new.world) (g.W.Env.marks c.update.new.world)) (CutUpdate (eval_frame f) c.args.target c.as_slice-kept.result.now (map view c.in_ok-changes-in-Ok.changes.items)) (g.W.World.state c.each.new.world) (g.W.World.state c.update.new.world)) (c.each.ensures.attempt.passed.fixed ∙ c.perform.ensures.attempt.passed.fixed) (subst (λ vs. MayFallSilent (SilenceCause (g.W.Env.marks c.each.new.world) (g.W.Env.marks c.update.new.world)) (CutUpdate (eval_frame (g.W.Env.fixed c.each.new.world)) c.args.target c.as_slice-kept.result.now (map view vs)) (g.W.World.state c.each.new.world) (g.W.World.state c.update.new.world)) c.as_slice.ensures.value k)))))
    c.update.ensures.cut

pub act_deed-returns-in-UpdateIf-clause-cut : goal.act_deed-returns-in-UpdateIf-clause-cut
act_deed-returns-in-UpdateIf-clause-cut g t c =
    subst (λ (d : Deed). OnErr c.update_if.result (MayFallSilent (SilenceCause (g.W.Env.marks c.args.world.now) (g.W.Env.marks c.update_if.new.world)) (IsActCut (ground g.W.World.gives (g.W.Env.fixed c.args.world.now)) d (parts_of (ground g.W.World.gives (g.W.Env.fixed c.args.world.now)) (all c.args.parts.now)) c.args.scope.now) (g.W.World.state c.args.world.now) (g.W.World.state c.update_if.new.world))) (sym c.in-UpdateIf.is) c.update_if.ensures.cut

pub act_deed-returns-in_err-values-in_default-clause-cut : goal.act_deed-returns-in_err-values-in_default-clause-cut
act_deed-returns-in_err-values-in_default-clause-cut g t c =
    cutting.on_any c.from_residual.result
    (cutting.deed_first (SilenceCause (g.W.Env.marks c.args.world.now) (g.W.Env.marks c.part_values.new.world)) (ground g.W.World.gives (g.W.Env.fixed c.args.world.now)) c.args.deed.now c.args.parts.now c.args.scope.now (g.W.World.state c.args.world.now) (g.W.World.state c.part_values.new.world) (acted.not_updating c.args.deed.now c.in_default.not-UpdateIf) c.in_err-values-in_default.ensures.cut)

pub in_scope-returns-in_err-push-clause-cut : goal.in_scope-returns-in_err-push-clause-cut
in_scope-returns-in_err-push-clause-cut g t c =
    cutting.on_any c.from_residual.result
    (cutting.tree_nowhere (SilenceCause (g.W.Env.marks c.args.world.now) (g.W.Env.marks c.args.world.now)) (ground g.W.World.gives (g.W.Env.fixed c.args.world.now)) c.args.formula.now (inner c.args.scope.now (view c.args.row)) (g.W.World.state c.args.world.now))
