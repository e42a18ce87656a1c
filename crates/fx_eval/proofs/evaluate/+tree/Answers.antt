use Rattle.std.proofs.lemmas.List.{length-append}
use Rattle.std.proofs.lemmas.Result.{IfOk-weaker}
use Rattle.std.specs.Prelude.{if◌then◌else◌}
use Rattle.std.proofs.Common.{◌≡◌, ◌∷◌, [], None, Option, true, length, ap, sym, subst, ◌∙◌, refl, arith}
use Rattle.fx_types.specs.ValueView.{view}
use Rattle.fx_eval.proofs.CallPlaces.{call_fine}
use Rattle.fx_eval.proofs.Forms.{ThenSet}
use Rattle.fx_eval.proofs.Nodes.{apply_is, called_is, coerce_is, fields_rise, fields_there, list_fine, list_is, no_user, only_is, over_is, record_is, row_is, there}
use Rattle.fx_eval.proofs.Passing.{as_before, heard_before, held_before, meant_before, went_on}
use Rattle.fx_eval.proofs.Queried.{answered_went, asked_worth, constants_smaller, constants_there, found_worth, heard_same, plain_worth, plan_there, search_can, search_smaller, search_stands, search_there, stands_there, take_there}
use Rattle.fx_eval.proofs.Ready.{formula_ready, ready_fits}
use Rattle.fx_eval.proofs.Rows.{asked_there, each_step, given_step, inside_at, make_there, over_there, part_asked, table_can}
use Rattle.fx_eval.proofs.SettledTrees.{settled_smaller, settled_there, settled_worth}
use Rattle.fx_eval.proofs.Sizes.{condition_falls, field_is_smaller, fields_fall, formula_falls, one_falls, parts_fall, rest_falls, table_falls}
use Rattle.fx_eval.proofs.Standings.{all_ready, any_ready, coalesce_ready, fields_ready, if_ready, recover_ready, switch_ready}
use Rattle.fx_eval.proofs.EvalSteps.{beyond_then, branch_then, end_step, fallback_then, next_falls, next_step, some_there, then_step, turn_step}
use Rattle.fx_eval.proofs.Values.{field_fine, filled_step, part_fine, values_step}
use Rattle.fx_eval.proofs.Consumed.{answered_found, found_visited, plain_visited, settled_visited}
use Rattle.fx_eval.proofs.Heads.{called_visited, caught_visited, fields_visited, no_error_is, read_visited, rows_error, rows_go, searched_over, searched_visited, whole_visited, within_error, within_goes, within_visited}
use Rattle.fx_eval.proofs.Visiting.{all_passed, all_step, end_passed, fields_step, none_passed, ok_always, ok_both, part_goes, part_passed, parts_step, stood}
use Rattle.fx_eval.proofs.Visiting.{each_step as each_rows_step}
use Rattle.fx_eval.specs.Visits.{TurnVisits, Visits, parts}
use Rattle.fx_eval.specs.declared.demands.Demand.TheVariants as demand
use Rattle.fx_eval.specs.EvalSteps.{moment}
use Rattle.fx_eval.specs.Courses.{answers, catches, chooses, goes, course_going, passes}
use Rattle.fx_eval.specs.Demands.{CanStand}
use Rattle.fx_eval.specs.Parts.{AreBranches, AreConditions, AreFine, AreRecoveries, IsSwitched, caught_in, inner, terms_of}
use Rattle.fx_types.specs.declared.faults.Fault.{Fault}
use Rattle.fx_env.specs.Scopes.{CanEvaluate, ScopeValues, around}
use Rattle.fx_semantics.specs.Around.{record_of}
use Rattle.fx_semantics.specs.Around.{catching as around_caught}
use Rattle.fx_semantics.specs.Fresh.{IsValue, meaning}
use Rattle.fx_semantics.specs.Rows.{IsOfFound}
use Rattle.fx_core.specs.Term.{of, all, call, cons, over}
use Rattle.fx_core.specs.TermView.{core_branch}
use Rattle.fx_typing.specs.WellTyped.{inside, plain}
use Rattle.fx_eval.specs.Given.{PartGives, argument_values}
use Rattle.fx_value.specs.Fits.{fits_in}
use Rattle.fx_core.proofs.Parts.{part_is_smaller}
use Rattle.fx_eval.proofs.evaluate.+tree.Goals as goal

pub tree-returns-clause-fits : goal.tree-returns-clause-fits
tree-returns-clause-fits g t c = λ u r.
    IfOk-weaker c.value_here.result _ (λ v. fits_in (view v) u ≡ true)
    (λ v k. ready_fits c.values_fit.ensures (g.E.Env.fixed c.args.env.now).types None c.args.scope.now c.args.core.now u r (view v) (k None tt))
    c.value_here.ensures.value

-- ---- query expressions

pub query-constant_values-requires : goal.query-constant_values-requires
query-constant_values-requires g t c κs within = (
  let h = constants_smaller _ _ _ _ _ _ _ c.requires.asked c.as_slice-formulas.ensures in omega (arith, h),
  (within.0, (within.1, constants_there c.queries_are_values.ensures.ready _ _ _ _ _ _ _ c.requires.ready c.requires.asked c.as_slice-formulas.ensures)),
)

pub query-node-requires : goal.query-node-requires
query-node-requires g t c κs within = (
  let h = settled_smaller c.settled_are_values.ensures.small _ _ _ _ _ c.in_ok-settled.ensures in omega (arith, h),
  (
    within.0,
    (
      within.1,
      as_before (λ types s. CanEvaluate types s c.in_ok-settled.settled) _ _ c.constant_values.ensures.went
          (settled_there c.settled_are_values.ensures.ready _ _ _ _ _ _ _ _ _ _ _ c.constant_values.ensures.went.scope c.requires.ready c.requires.asked c.as_slice-formulas.ensures
          (heard_same _ _ _ _ _ _ c.as_slice-values.ensures.value c.in_ok-constants.ensures.value) c.in_ok-settled.ensures),
    ),
  ),
)

pub query-answer-requires-clause-plan : goal.query-answer-requires-clause-plan
query-answer-requires-clause-plan g t c =
    plan_there c.queries_are_values.ensures.ready _ _ _ _ _ _ _ _ _ _ c.constant_values.ensures.went.fixed c.requires.ready c.requires.asked c.as_slice-formulas.ensures (heard_same _ _ _ _ _ _ c.as_slice-values.ensures.value c.in_ok-constants.ensures.value)

pub query-answer-requires-clause-take : goal.query-answer-requires-clause-take
query-answer-requires-clause-take g t c = take_there _ _ _ _ _ _ _ c.constant_values.ensures.went.fixed c.requires.asked

pub query-answer-requires-clause-faultless : goal.query-answer-requires-clause-faultless
query-answer-requires-clause-faultless g t c = sym c.has_error.ensures ∙ c.if-has_error.false

pub query-found_formula-requires : goal.query-found_formula-requires
query-found_formula-requires g t c = search_there _ _ _ _ _ _ c.requires.asked c.in-FoundIn.is

pub query-of_found-requires : goal.query-of_found-requires
query-of_found-requires g t c κs within = (
  let h = search_smaller _ _ c.found_formula.ensures in omega (arith, h),
  (
    within.0,
    (
      within.1,
      as_before (λ types s. CanStand types s c.found_formula.result.now (view c.in_ok-value.value)) _ _
          (went_on _ _ _ c.constant_values.ensures.went (answered_went _ _ _ _ _ _ _ _ _ _ _ _ c.answer.ensures.fixed c.answer.ensures.told c.answer.ensures.marks c.answer.ensures.ticked c.answer.ensures.visited))
          (stands_there c.queries_are_values.ensures.found _ _ _ _ _ _ _ _ _ _ _ _ _ c.constant_values.ensures.went.fixed c.requires.ready c.requires.asked c.as_slice-formulas.ensures
          (heard_same _ _ _ _ _ _ c.as_slice-values.ensures.value c.in_ok-constants.ensures.value) (sym (sym c.has_error.ensures ∙ c.if-has_error.false)) c.in_ok-value.ensures.value c.in-FoundIn.is c.found_formula.ensures),
    ),
  ),
)

pub query-returns-then-has_error-clause-value : goal.query-returns-then-has_error-clause-value
query-returns-then-has_error-clause-value g t c =
    IfOk-weaker c.node.result _ _
    (λ v k told h. settled_worth c.settled_are_values.ensures.worth _ _ _ _ _ _ _ _ _ _ _ (view v) told c.constant_values.ensures.went.scope c.requires.asked c.as_slice-formulas.ensures
    (heard_same _ _ _ _ _ _ c.as_slice-values.ensures.value c.in_ok-constants.ensures.value) c.in_ok-settled.ensures (heard_before _ _ c.node.ensures.went told h)
    (meant_before told (meaning c.in_ok-settled.settled) (λ s. s) _ _ c.constant_values.ensures.went (view v) (k told h)))
    c.node.ensures.value

pub query-returns-in-FoundIn-clause-value : goal.query-returns-in-FoundIn-clause-value
query-returns-in-FoundIn-clause-value g t c =
    IfOk-weaker c.of_found.result _ _
    (λ w k told h. found_worth _ _ _ _ (view c.in_ok-value.value) (view w) c.in-FoundIn.is c.found_formula.ensures
    (asked_worth c.queries_are_values.ensures.worth _ _ _ _ _ _ _ _ _ _ _ _ _ _ c.constant_values.ensures.went.fixed c.constant_values.ensures.went.told c.answer.ensures.told c.requires.asked c.as_slice-formulas.ensures
    (heard_same _ _ _ _ _ _ c.as_slice-values.ensures.value c.in_ok-constants.ensures.value) (sym (sym c.has_error.ensures ∙ c.if-has_error.false)) c.in_ok-value.ensures.value told (heard_before _ _ c.of_found.ensures.went told h))
    (held_before told (λ a. IsOfFound (view c.in_ok-value.value) (meaning c.found_formula.result.now) a (view w)) _ _ (went_on _ _ _ c.constant_values.ensures.went (answered_went _ _ _ _ _ _ _ _ _ _ _ _ c.answer.ensures.fixed c.answer.ensures.told c.answer.ensures.marks c.answer.ensures.ticked c.answer.ensures.visited)) (k told h)))
    c.of_found.ensures.value

pub query-returns-then-has_error-clause-visits : goal.query-returns-then-has_error-clause-visits
query-returns-then-has_error-clause-visits g t c =
    ok_both c.node.result _ _ _
    (λ v worth head. settled_visited _ _ c.args.core.now c.args.asked.now.demand c.args.asked.now.sketch c.as_slice-formulas.result.now _ c.constant_values.ensures.went c.requires.asked c.as_slice-formulas.ensures c.in_ok-constants.ensures.visits
    (heard_same _ _ _ _ _ _ c.as_slice-values.ensures.value c.in_ok-constants.ensures.value) _ c.in_ok-settled.settled (view v) c.settled_are_values.ensures.worth c.node.ensures.went
    (sym c.has_error.ensures ∙ c.if-has_error.true) c.in_ok-settled.ensures head worth)
    (query-returns-then-has_error-clause-value g t c) c.node.ensures.visits

pub query-returns-in-FoundIn-clause-visits : goal.query-returns-in-FoundIn-clause-visits
query-returns-in-FoundIn-clause-visits g t c =
    let answered = answered_went _ _ _ _ _ _ _ _ _ _ _ _ c.answer.ensures.fixed c.answer.ensures.told c.answer.ensures.marks c.answer.ensures.ticked c.answer.ensures.visited in
    IfOk-weaker c.of_found.result _ _
    (λ w k. found_visited _ _ c.args.core.now c.args.asked.now.demand c.args.asked.now.sketch c.as_slice-formulas.result.now _ c.constant_values.ensures.went c.requires.asked c.as_slice-formulas.ensures c.in_ok-constants.ensures.visits
    (heard_same _ _ _ _ _ _ c.as_slice-values.ensures.value c.in_ok-constants.ensures.value) _ _ c.found_formula.result.now (view c.in_ok-value.value) answered c.of_found.ensures.went c.in-FoundIn.is c.found_formula.ensures c.in_ok-value.ensures.visits
    (λ x found. asked_worth c.queries_are_values.ensures.worth _ _ _ _ _ _ _ _ x demand.Found _ _ _ _ c.constant_values.ensures.went.fixed c.constant_values.ensures.went.told c.answer.ensures.told found c.as_slice-formulas.ensures
    (heard_same _ _ _ _ _ _ c.as_slice-values.ensures.value c.in_ok-constants.ensures.value) (sym (sym c.has_error.ensures ∙ c.if-has_error.false)) (answered_found _ _ _ _ _ _ c.in-FoundIn.is c.in_ok-value.ensures.value))
    k)
    c.of_found.ensures.visits

pub query-returns : goal.query-returns
query-returns g t c = record {
  went = went_on _ _ _ c.constant_values.ensures.went (answered_went _ _ _ _ _ _ _ _ _ _ _ _ c.answer.ensures.fixed c.answer.ensures.told c.answer.ensures.marks c.answer.ensures.ticked c.answer.ensures.visited);
  keeper = λ e. absurd cc;
  value = λ told h. plain_worth _ _ _ _ c.in_default.not-FoundIn
      (asked_worth c.queries_are_values.ensures.worth _ _ _ _ _ _ _ _ _ _ _ _ _ _ c.constant_values.ensures.went.fixed c.constant_values.ensures.went.told c.answer.ensures.told c.requires.asked c.as_slice-formulas.ensures
      (heard_same _ _ _ _ _ _ c.as_slice-values.ensures.value c.in_ok-constants.ensures.value) (sym (sym c.has_error.ensures ∙ c.if-has_error.false)) c.in_ok-value.ensures.value told h);
  visits = plain_visited _ _ c.args.core.now c.args.asked.now.demand c.args.asked.now.sketch c.as_slice-formulas.result.now _ c.constant_values.ensures.went c.requires.asked c.as_slice-formulas.ensures c.in_ok-constants.ensures.visits
      (heard_same _ _ _ _ _ _ c.as_slice-values.ensures.value c.in_ok-constants.ensures.value) _ (view c.in_ok-value.value)
      (answered_went _ _ _ _ _ _ _ _ _ _ _ _ c.answer.ensures.fixed c.answer.ensures.told c.answer.ensures.marks c.answer.ensures.ticked c.answer.ensures.visited) c.in_default.not-FoundIn c.in_ok-value.ensures.visits
      (λ told h. plain_worth _ _ _ _ c.in_default.not-FoundIn
      (asked_worth c.queries_are_values.ensures.worth _ _ _ _ _ _ _ _ _ _ _ _ _ _ c.constant_values.ensures.went.fixed c.constant_values.ensures.went.told c.answer.ensures.told c.requires.asked c.as_slice-formulas.ensures
      (heard_same _ _ _ _ _ _ c.as_slice-values.ensures.value c.in_ok-constants.ensures.value) (sym (sym c.has_error.ensures ∙ c.if-has_error.false)) c.in_ok-value.ensures.value told h));
}

-- ---- nodes

pub node-row-requires : goal.node-row-requires
node-row-requires g t c = row_is _ _ c.in-Row.place _ (sym (ap core_branch c.in-Row.is) ∙ c.core.view_is) c.requires

pub node-tree-requires : goal.node-tree-requires
node-tree-requires g t c κs within =
    let e = sym (ap core_branch c.in-Dot.is) ∙ c.core.view_is in
    (let h = one_falls _ _ _ _ e c.deref.ensures in omega (arith, h), (within.0, (within.1, only_is _ _ _ _ _ _ refl e c.deref.ensures c.requires)))

pub node-tree-requires-in-Coerce : goal.node-tree-requires-in-Coerce
node-tree-requires-in-Coerce g t c κs within =
    let e = sym (ap core_branch c.in-Coerce.is) ∙ c.core.view_is in
    (let h = one_falls _ _ _ _ e c.deref-in-Coerce.ensures in omega (arith, h), (within.0, (within.1, only_is _ _ _ _ _ _ refl e c.deref-in-Coerce.ensures c.requires)))

pub node-coerce-requires : goal.node-coerce-requires
node-coerce-requires g t c =
    coerce_is _ _ _ _ _ _ _ (sym (ap core_branch c.in-Coerce.is) ∙ c.core.view_is) c.deref-in-Coerce.ensures c.requires c.in_ok-value-in-Coerce.ensures.fits

pub node-go_through-requires : goal.node-go_through-requires
node-go_through-requires g t c κs within =
    let e = sym (ap core_branch c.in-All.is) ∙ c.core.view_is in (
      let h = parts_fall _ _ _ _ e c.as_slice.ensures in omega (arith, h),
      (within.0, (within.1, there (AreConditions _ _) _ _ _ _ _ _ (all_ready _ _ _) e c.as_slice.ensures c.requires)),
    )

pub node-go_through-requires-in-Any : goal.node-go_through-requires-in-Any
node-go_through-requires-in-Any g t c κs within =
    let e = sym (ap core_branch c.in-Any.is) ∙ c.core.view_is in (
      let h = parts_fall _ _ _ _ e c.as_slice-in-Any.ensures in omega (arith, h),
      (within.0, (within.1, there (AreConditions _ _) _ _ _ _ _ _ (any_ready _ _ _) e c.as_slice-in-Any.ensures c.requires)),
    )

pub node-go_through-requires-in-If : goal.node-go_through-requires-in-If
node-go_through-requires-in-If g t c κs within =
    let e = sym (ap core_branch c.in-If.is) ∙ c.core.view_is in (
      let h = parts_fall _ _ _ _ e c.as_slice-in-If.ensures in omega (arith, h),
      (within.0, (within.1, there (AreBranches _ _) _ _ _ _ _ _ (if_ready _ _ _) e c.as_slice-in-If.ensures c.requires)),
    )

pub node-go_through-requires-in-Switch : goal.node-go_through-requires-in-Switch
node-go_through-requires-in-Switch g t c κs within =
    let e = sym (ap core_branch c.in-Switch.is) ∙ c.core.view_is in (
      let h = parts_fall _ _ _ _ e c.as_slice-in-Switch.ensures in omega (arith, h),
      (within.0, (within.1, there (IsSwitched _ _) _ _ _ _ _ _ (switch_ready _ _ _) e c.as_slice-in-Switch.ensures c.requires)),
    )

pub node-go_through-requires-in-IfError : goal.node-go_through-requires-in-IfError
node-go_through-requires-in-IfError g t c κs within =
    let e = sym (ap core_branch c.in-IfError.is) ∙ c.core.view_is in (
      let h = parts_fall _ _ _ _ e c.as_slice-in-IfError.ensures in omega (arith, h),
      (within.0, (within.1, there (AreRecoveries _ _) _ _ _ _ _ _ (recover_ready _ _ _) e c.as_slice-in-IfError.ensures c.requires)),
    )

pub node-go_through-requires-in-Coalesce : goal.node-go_through-requires-in-Coalesce
node-go_through-requires-in-Coalesce g t c κs within =
    let e = ap (λ f. of (call f) (all c.in-Call.parts)) (sym c.in-Coalesce.is) ∙ sym (ap core_branch c.in-Call.is) ∙ c.core.view_is in (
      let h = parts_fall _ _ _ _ e c.as_slice-in-Coalesce.ensures in omega (arith, h),
      (within.0, (within.1, there (AreFine _ _) _ _ _ _ _ _ (coalesce_ready _ _ _) e c.as_slice-in-Coalesce.ensures c.requires)),
    )

pub node-part_values-requires : goal.node-part_values-requires
node-part_values-requires g t c κs within =
    let e = sym (ap core_branch c.in-Call.is) ∙ c.core.view_is in (
      let h = parts_fall _ _ _ _ e c.as_slice-in_default.ensures in omega (arith, h),
      (within.0, (within.1, there (AreFine _ _) _ _ _ _ _ _ (call_fine _ _ _ _) e c.as_slice-in_default.ensures c.requires)),
    )

pub node-apply-requires : goal.node-apply-requires
node-apply-requires g t c =
    apply_is c.values_fit.ensures c.fitting_can_apply.ensures _ None _ _ _ _ _ _ _ (sym (ap core_branch c.in-Call.is) ∙ c.core.view_is) c.as_slice-in_default.ensures c.requires
    (c.in_ok-values-in_default.ensures.value None tt) c.as_slice-in_default-2.ensures.value

pub node-returns-in_ok-apply-in_default : goal.node-returns-in_ok-apply-in_default
node-returns-in_ok-apply-in_default g t c = record {
  went = c.part_values.ensures.went;
  keeper = λ e. absurd cc;
  value = λ told h. called_is _ _ _ _ _ _ _ _ c.in_default.not-Coalesce (sym (ap core_branch c.in-Call.is) ∙ c.core.view_is) c.as_slice-in_default.ensures
      (c.in_ok-values-in_default.ensures.value told h) c.as_slice-in_default-2.ensures.value c.in_ok-apply-in_default.ensures.answer;
  visits = called_visited _ _ c.part_values.ensures.went _ _ _ _ c.in_default.not-Coalesce (sym (ap core_branch c.in-Call.is) ∙ c.core.view_is) c.as_slice-in_default.ensures c.in_ok-values-in_default.ensures.visits;
}

pub node-field_values-requires : goal.node-field_values-requires
node-field_values-requires g t c κs within =
    let e = sym (ap core_branch c.in-Rec.is) ∙ c.core.view_is in (
      let h = fields_fall _ _ _ _ e c.as_slice-in-Rec.ensures in omega (arith, h),
      (within.0, (within.1, fields_there (λ fs. AreFine (g.E.Env.fixed c.args.env.now).types c.args.scope.now (terms_of fs)) _ _ _ _ _ (fields_ready _ _ _) e c.as_slice-in-Rec.ensures c.requires)),
    )

pub node-from_rising-requires : goal.node-from_rising-requires
node-from_rising-requires g t c =
    fields_rise _ _ _ _ _ _ _ (sym (ap core_branch c.in-Rec.is) ∙ c.core.view_is) c.as_slice-in-Rec.ensures c.requires (c.in_ok-items-in-Rec.ensures.value None tt)

pub node-returns-in_ok-items-in-Rec-clause-value : goal.node-returns-in_ok-items-in-Rec-clause-value
node-returns-in_ok-items-in-Rec-clause-value g t c = λ told h.
    record_is _ _ _ _ _ _ (sym (ap core_branch c.in-Rec.is) ∙ c.core.view_is) c.as_slice-in-Rec.ensures (c.in_ok-items-in-Rec.ensures.value told h) c.from_rising.ensures

pub node-over_table-requires : goal.node-over_table-requires
node-over_table-requires g t c κs within =
    let e = sym (ap core_branch c.in-Over.is) ∙ c.core.view_is in (
      let h = table_falls _ _ _ _ _ _ e c.deref-in-Over.ensures c.as_slice-in-Over.ensures in omega (arith, h),
      (within.0, (within.1, over_is _ _ _ _ _ _ _ _ e c.deref-in-Over.ensures c.as_slice-in-Over.ensures c.requires)),
    )

pub node-part_values-requires-in-List : goal.node-part_values-requires-in-List
node-part_values-requires-in-List g t c κs within =
    let e = sym (ap core_branch c.in-List.is) ∙ c.core.view_is in (
      let h = parts_fall _ _ _ _ e c.as_slice-in-List.ensures in omega (arith, h),
      (within.0, (within.1, there (AreFine _ _) _ _ _ _ _ _ (list_fine _ _ _ _) e c.as_slice-in-List.ensures c.requires)),
    )

pub node-list-requires : goal.node-list-requires
node-list-requires g t c =
    list_is c.values_fit.ensures _ None _ _ _ _ _ _ (sym (ap core_branch c.in-List.is) ∙ c.core.view_is) c.as_slice-in-List.ensures c.requires (c.in_ok-values-in-List.ensures.value None tt)

-- no call of a function of an app's own is left
pub node-unreachable-requires : goal.node-unreachable-requires
node-unreachable-requires g t c = no_user _ _ _ _ _ (sym (ap core_branch c.in-User.is) ∙ c.core.view_is) c.requires

pub node-returns-in-Read-clause-visits : goal.node-returns-in-Read-clause-visits
node-returns-in-Read-clause-visits g t c =
    ok_always c.read.result _
    (read_visited (g.E.Env.fixed c.args.env.now) c.args.scope.now (g.E.Env.told c.read.new.self) (g.E.Env.visited c.args.env.now) (g.E.Env.visited c.read.new.self) c.in-Read.source c.args.core.now
    (sym (ap core_branch c.in-Read.is) ∙ c.core.view_is) c.read.ensures.most)

pub node-returns-in-With-clause-visits : goal.node-returns-in-With-clause-visits
node-returns-in-With-clause-visits g t c =
    IfOk-weaker c.within.result _ _ (λ v k. within_visited _ _ c.within.ensures.went _ _ c.deref-in-With.result.now c.deref-in-With-2.result.now _ (sym (ap core_branch c.in-With.is) ∙ c.core.view_is) c.deref-in-With.ensures c.deref-in-With-2.ensures k) c.within.ensures.visits

pub node-returns-in_ok-items-in-Rec-clause-visits : goal.node-returns-in_ok-items-in-Rec-clause-visits
node-returns-in_ok-items-in-Rec-clause-visits g t c =
    fields_visited _ _ c.field_values.ensures.went _ _ _ (sym (ap core_branch c.in-Rec.is) ∙ c.core.view_is) c.as_slice-in-Rec.ensures c.in_ok-items-in-Rec.ensures.visits

-- ---- With

pub within-in_scope-requires : goal.within-in_scope-requires
within-in_scope-requires g t c κs within = (
  omega arith,
  (
    within.0,
    (
      within.1,
      as_before (λ types s. CanEvaluate types (inner s (view c.in-Ok.row)) c.args.formula.now) _ _ c.tree.ensures.went
          (subst (λ d. CanEvaluate (g.E.Env.fixed c.args.env.now).types (inner c.args.scope.now d) c.args.formula.now) (sym c.in-Ok.ensures.0) (formula_ready _ _ c.args.part.now c.args.formula.now c.requires _ c.in_ok-value.ensures.fits)),
    ),
  ),
)

pub within-returns-in-Ok-clause-visits : goal.within-returns-in-Ok-clause-visits
within-returns-in-Ok-clause-visits g t c =
    IfOk-weaker c.in_scope.result _ _
    (λ v k. within_goes _ _ c.tree.ensures.went c.args.part.now (view c.in_ok-value.value) c.in_ok-value.ensures.visits c.in_ok-value.ensures.value _ c.args.formula.now (view c.in-Ok.row) c.in_scope.ensures.went c.in-Ok.ensures.0
    (no_error_is (view c.in_ok-value.value) c.in-Ok.ensures.1) k)
    c.in_scope.ensures.visits

pub within-returns-in-Err-clause-visits : goal.within-returns-in-Err-clause-visits
within-returns-in-Err-clause-visits g t c =
    within_error _ _ c.tree.ensures.went c.args.part.now (view c.in_ok-value.value) c.in_ok-value.ensures.visits c.in_ok-value.ensures.value c.in-Err.fault c.args.formula.now c.in-Err.ensures

pub catch_error-returns-clause-visits : goal.catch_error-returns-clause-visits
catch_error-returns-clause-visits g t c =
    IfOk-weaker c.tree-value.result _ _
    (λ v k. caught_visited (g.E.Env.fixed c.args.env.now) c.args.scope.now _ (g.E.Env.told c.tree-value.new.env) (g.E.Env.visited c.args.env.now) (g.E.Env.visited c.tree-value.new.env) c.args.fault.kind c.args.fault.message c.args.formula.now
    (ap (λ (s : ScopeValues). record s { caught = c.replace-outer.new.self }) c.scope.view_is ∙ ap (λ (z : Option Fault). record c.args.scope.now { caught = z }) c.replace-outer.ensures.after) k)
    c.tree-value.ensures.visits

-- ---- fields, and parts one after another

pub field_values-tree-requires : goal.field_values-tree-requires
field_values-tree-requires g t c κs within = (
  let h = field_is_smaller c.args.fields.now c.loop-name.name-index c.loop-name-item.result c.loop-name-test.true c.loop-name-item.is in omega (arith, h),
  (
    within.0,
    (
      within.1,
      field_fine _ _ c.args.fields.now c.loop-name.name-index c.loop-name-item.result (as_before (λ types s. AreFine types s (terms_of c.args.fields.now)) _ _ c.loop-name.invariant.went c.requires)
          c.loop-name-test.true c.loop-name-item.is,
    ),
  ),
)

pub field_values-loop-name-preserved : goal.field_values-loop-name-preserved
field_values-loop-name-preserved g t c = record {
  went = went_on _ _ _ c.loop-name.invariant.went c.tree.ensures.went;
  values = λ told h. filled_step _ c.args.fields.now c.loop-name.name-index c.loop-name-item.result _ _ _ _ c.loop-name-test.true c.loop-name-item.is
      (c.loop-name.invariant.values told (heard_before _ _ c.tree.ensures.went told h))
      c.in_ok-push.ensures.items c.in_ok-copy.ensures (meant_before told (meaning c.loop-name-item.result.1) (λ s. s) _ _ c.loop-name.invariant.went _ (c.in_ok-value.ensures.value told h));
  visits = fields_step _ _ _ c.args.fields.now c.loop-name.name-index c.loop-name-item.result c.loop-name-test.true c.loop-name-item.is c.loop-name.invariant.went c.tree.ensures.went c.loop-name.invariant.visits c.in_ok-value.ensures.visits;
}

pub part_values-tree-requires : goal.part_values-tree-requires
part_values-tree-requires g t c κs within = (
  let h = part_is_smaller c.args.parts.now c.loop-part.part-index c.part-item.result c.loop-part-test.true c.part-item.is in omega (arith, h),
  (
    within.0,
    (
      within.1,
      part_fine _ _ c.args.parts.now c.loop-part.part-index c.part-item.result (as_before (λ types s. AreFine types s c.args.parts.now) _ _ c.loop-part.invariant.went c.requires)
          c.loop-part-test.true c.part-item.is,
    ),
  ),
)

pub part_values-loop-part-preserved : goal.part_values-loop-part-preserved
part_values-loop-part-preserved g t c = record {
  went = went_on _ _ _ c.loop-part.invariant.went c.tree.ensures.went;
  values = λ told h. values_step _ c.args.parts.now c.loop-part.part-index c.part-item.result _ _ _ c.loop-part-test.true c.part-item.is
      (c.loop-part.invariant.values told (heard_before _ _ c.tree.ensures.went told h))
      c.in_ok-push.ensures.items (meant_before told (meaning c.part-item.result) (λ s. s) _ _ c.loop-part.invariant.went _ (c.in_ok-value.ensures.value told h));
  visits = all_step _ _ _ c.args.parts.now c.loop-part.part-index c.part-item.result c.loop-part-test.true c.part-item.is c.loop-part.invariant.went c.tree.ensures.went c.loop-part.invariant.visits c.in_ok-value.ensures.visits;
}

-- ---- forms

pub go_through-returns-then-ends_here-clause-value : goal.go_through-returns-then-ends_here-clause-value
go_through-returns-then-ends_here-clause-value g t c =
    let l = c.ends_here.ensures.last c.if-ends_here.true in
    IfOk-weaker c.tree.result _ _
    (λ v k told h. end_step told _ _ (course_going c.args.course) _ c.args.parts.now _ c.in-Some.part.now c.in-Some.others.now c.loop-part.invariant.went
    (c.loop-part.invariant.value told (heard_before _ _ c.tree.ensures.went told h)) c.in-Some.ensures.cases.0 l.0 l.1 (view v) (k told h))
    c.tree.ensures.value

pub go_through-turn-requires : goal.go_through-turn-requires
go_through-turn-requires g t c =
    turn_step _ _ _ _ c.in-Some.part.now c.in-Some.others.now _ c.loop-part.invariant.went c.loop-part.invariant.parts c.in-Some.ensures.cases.0
    (c.ends_here.ensures.next c.if-ends_here.false) c.in_ok-value.ensures.fits

pub go_through-returns-in-Answer-clause-value : goal.go_through-returns-in-Answer-clause-value
go_through-returns-in-Answer-clause-value g t c = λ told h.
    then_step told _ _ (course_going c.args.course) _ c.args.parts.now _ c.in-Some.part.now c.in-Some.others.now _ (answers (view c.in-Answer.value)) c.loop-part.invariant.went (c.loop-part.invariant.value told (heard_before _ _ c.tree-in-Some.ensures.went told h)) c.in-Some.ensures.cases.0
    (c.ends_here.ensures.next c.if-ends_here.false) (c.in_ok-value.ensures.value told h) c.in-Answer.ensures (view c.in-Answer.value) refl

pub go_through-returns-in-Branch-clause-value : goal.go_through-returns-in-Branch-clause-value
go_through-returns-in-Branch-clause-value g t c =
    IfOk-weaker c.tree-in-Branch.result _ _
    (λ v k told h. then_step told _ _ (course_going c.args.course) _ c.args.parts.now _ c.in-Some.part.now c.in-Some.others.now _ chooses c.loop-part.invariant.went
    (c.loop-part.invariant.value told (heard_before _ _ c.tree-in-Some.ensures.went told (heard_before _ _ c.tree-in-Branch.ensures.went told h))) c.in-Some.ensures.cases.0
    (c.ends_here.ensures.next c.if-ends_here.false) (c.in_ok-value.ensures.value told (heard_before _ _ c.tree-in-Branch.ensures.went told h)) c.in-Branch.ensures (view v)
    (branch_then _ _ _ _ _ c.split.ensures (meant_before told (meaning c.split.result.0.now) (λ s. s) _ _ (went_on _ _ _ c.loop-part.invariant.went c.tree-in-Some.ensures.went) _ (k told h))))
    c.tree-in-Branch.ensures.value

pub go_through-catch_error-requires : goal.go_through-catch_error-requires
go_through-catch_error-requires g t c κs within =
    let k = c.in-Fallback.fault.kind in
    let cs = c.in-Fallback.fault.message in
    let ready = next_step _ _ _ _ c.in-Some.part.now c.in-Some.others.now _ (catches k cs) c.loop-part.invariant.went c.loop-part.invariant.parts c.in-Some.ensures.cases.0
    (c.ends_here.ensures.next c.if-ends_here.false) c.in_ok-value.ensures.fits c.in-Fallback.ensures in (
      let h = next_falls _ _ _ _ _ c.in-Some.ensures.cases.0 c.split-in-Fallback.ensures in let small = c.loop-part.invariant.small in omega (arith, h, small),
      (
        within.0,
        (
          within.1,
          as_before (λ types s. CanEvaluate types (caught_in s k cs) c.split-in-Fallback.result.0.now) _ _ (went_on _ _ _ c.loop-part.invariant.went c.tree-in-Some.ensures.went)
              (subst (ThenSet (g.E.Env.fixed c.args.env.now).types c.args.scope.now (catches k cs)) c.split-in-Fallback.ensures ready),
        ),
      ),
    )

pub go_through-returns-in-Fallback-clause-value : goal.go_through-returns-in-Fallback-clause-value
go_through-returns-in-Fallback-clause-value g t c =
    let k = c.in-Fallback.fault.kind in
    let cs = c.in-Fallback.fault.message in
    IfOk-weaker c.catch_error.result _ _
    (λ v q told h. then_step told _ _ (course_going c.args.course) _ c.args.parts.now _ c.in-Some.part.now c.in-Some.others.now _ (catches k cs) c.loop-part.invariant.went
    (c.loop-part.invariant.value told (heard_before _ _ c.tree-in-Some.ensures.went told (heard_before _ _ c.catch_error.ensures.went told h))) c.in-Some.ensures.cases.0
    (c.ends_here.ensures.next c.if-ends_here.false) (c.in_ok-value.ensures.value told (heard_before _ _ c.catch_error.ensures.went told h)) c.in-Fallback.ensures (view v)
    (fallback_then _ _ _ _ _ _ _ c.split-in-Fallback.ensures
    (meant_before told (meaning c.split-in-Fallback.result.0.now) (λ s. caught_in s k cs) _ _ (went_on _ _ _ c.loop-part.invariant.went c.tree-in-Some.ensures.went) _ (q told h))))
    c.catch_error.ensures.value

pub go_through-returns-then-ends_here-clause-visits : goal.go_through-returns-then-ends_here-clause-visits
go_through-returns-then-ends_here-clause-visits g t c =
    ok_both c.tree.result _ _ _
    (λ v worth k. end_passed _ _ _ _ (course_going c.args.course) c.args.parts.now _ c.in-Some.part.now c.in-Some.others.now (view v) c.loop-part.invariant.went c.tree.ensures.went c.loop-part.invariant.visits c.in-Some.ensures.cases.0
    (c.ends_here.ensures.last c.if-ends_here.true).0 k worth)
    c.tree.ensures.value c.tree.ensures.visits

pub go_through-returns-in-Answer-clause-visits : goal.go_through-returns-in-Answer-clause-visits
go_through-returns-in-Answer-clause-visits g t c =
    part_passed _ _ _ _ _ (course_going c.args.course) c.args.parts.now _ c.in-Some.part.now c.in-Some.others.now _ (answers (view c.in-Answer.value)) (λ w a n. n ≡ 0) c.loop-part.invariant.went c.tree-in-Some.ensures.went (stood _)
    c.loop-part.invariant.visits c.in-Some.ensures.cases.0 c.in_ok-value.ensures.visits c.in_ok-value.ensures.value c.in-Answer.ensures (λ w e. (0, refl, omega arith)) (λ w a l h. h)

pub go_through-loop-part-init : goal.go_through-loop-part-init
go_through-loop-part-init g t c = record {
  went = stood _;
  parts = c.requires;
  value = λ told h v k. k;
  small = omega arith;
  visits = none_passed
      (moment (g.E.Env.fixed c.args.env.now) (g.E.Env.told c.args.env.now) (g.E.Env.marks c.args.env.now) (g.E.Env.ticked c.args.env.now) (g.E.Env.visited c.args.env.now) c.args.scope.now c.args.steps.now)
      (course_going c.args.course) c.args.parts.now;
}

pub go_through-returns-clause-visits : goal.go_through-returns-clause-visits
go_through-returns-clause-visits g t c =
    all_passed _ _ c.loop-part.invariant.went _ (course_going c.args.course) c.args.parts.now _ c.in_default.ensures.cases c.loop-part.invariant.visits

pub go_through-returns-in-Branch-clause-visits : goal.go_through-returns-in-Branch-clause-visits
go_through-returns-in-Branch-clause-visits g t c =
    IfOk-weaker c.tree-in-Branch.result _ _
    (λ v k. part_passed _ _ _ _ _ (course_going c.args.course) c.args.parts.now _ c.in-Some.part.now c.in-Some.others.now _ chooses (λ w. Visits w c.split.result.0.now) c.loop-part.invariant.went c.tree-in-Some.ensures.went c.tree-in-Branch.ensures.went
    c.loop-part.invariant.visits c.in-Some.ensures.cases.0 c.in_ok-value.ensures.visits c.in_ok-value.ensures.value c.in-Branch.ensures k
    (λ w a l h. subst (λ zs. TurnVisits chooses (parts w (all zs)) a l) (sym c.split.ensures) h))
    c.tree-in-Branch.ensures.visits

pub go_through-returns-in-Fallback-clause-visits : goal.go_through-returns-in-Fallback-clause-visits
go_through-returns-in-Fallback-clause-visits g t c =
    let k = c.in-Fallback.fault.kind in
    let cs = c.in-Fallback.fault.message in
    IfOk-weaker c.catch_error.result _ _
    (λ v q. part_passed _ _ _ _ _ (course_going c.args.course) c.args.parts.now _ c.in-Some.part.now c.in-Some.others.now _ (catches k cs) (λ w a. Visits w c.split-in-Fallback.result.0.now (around_caught a k cs)) c.loop-part.invariant.went c.tree-in-Some.ensures.went c.catch_error.ensures.went
    c.loop-part.invariant.visits c.in-Some.ensures.cases.0 c.in_ok-value.ensures.visits c.in_ok-value.ensures.value c.in-Fallback.ensures q
    (λ w a l h. subst (λ zs. TurnVisits (catches k cs) (parts w (all zs)) a l) (sym c.split-in-Fallback.ensures) h))
    c.catch_error.ensures.visits

pub go_through-loop-part-preserved-in-Further : goal.go_through-loop-part-preserved-in-Further
go_through-loop-part-preserved-in-Further g t c = record {
  went = went_on _ _ _ c.loop-part.invariant.went c.tree-in-Some.ensures.went;
  parts = next_step _ _ _ _ c.in-Some.part.now c.in-Some.others.now _ (goes (course_going c.in-Further.next)) c.loop-part.invariant.went c.loop-part.invariant.parts c.in-Some.ensures.cases.0
      (c.ends_here.ensures.next c.if-ends_here.false) c.in_ok-value.ensures.fits c.in-Further.ensures;
  value = λ told h. then_step told _ _ (course_going c.args.course) _ c.args.parts.now _ c.in-Some.part.now c.in-Some.others.now _ (goes (course_going c.in-Further.next)) c.loop-part.invariant.went
      (c.loop-part.invariant.value told (heard_before _ _ c.tree-in-Some.ensures.went told h)) c.in-Some.ensures.cases.0
      (c.ends_here.ensures.next c.if-ends_here.false) (c.in_ok-value.ensures.value told h) c.in-Further.ensures;
  small = let small = c.loop-part.invariant.small in let h = rest_falls _ _ _ c.in-Some.ensures.cases.0 in omega (arith, h, small);
  visits = part_goes _ _ _ _ (course_going c.in-Further.next) (course_going c.args.course) c.args.parts.now _ c.in-Some.part.now c.in-Some.others.now c.in-Some.others.now _ (goes (course_going c.in-Further.next)) c.loop-part.invariant.went c.tree-in-Some.ensures.went
      c.loop-part.invariant.visits c.in-Some.ensures.cases.0 c.in_ok-value.ensures.visits c.in_ok-value.ensures.value c.in-Further.ensures (λ w a l h. h);
}

pub go_through-split-requires-in-Beyond : goal.go_through-split-requires-in-Beyond
go_through-split-requires-in-Beyond g t c =
    some_there _ _ (passes (course_going c.in-Beyond.next)) _ tt
    (next_step _ _ _ _ c.in-Some.part.now c.in-Some.others.now _ (passes (course_going c.in-Beyond.next)) c.loop-part.invariant.went c.loop-part.invariant.parts c.in-Some.ensures.cases.0
    (c.ends_here.ensures.next c.if-ends_here.false) c.in_ok-value.ensures.fits c.in-Beyond.ensures)

pub go_through-loop-part-preserved : goal.go_through-loop-part-preserved
go_through-loop-part-preserved g t c =
    let ready = next_step _ _ _ _ c.in-Some.part.now c.in-Some.others.now _ (passes (course_going c.in-Beyond.next)) c.loop-part.invariant.went c.loop-part.invariant.parts c.in-Some.ensures.cases.0
    (c.ends_here.ensures.next c.if-ends_here.false) c.in_ok-value.ensures.fits c.in-Beyond.ensures in
    record {
      went = went_on _ _ _ c.loop-part.invariant.went c.tree-in-Some.ensures.went;
      parts = subst (ThenSet (g.E.Env.fixed c.args.env.now).types c.args.scope.now (passes (course_going c.in-Beyond.next))) c.split-in-Beyond.ensures ready;
      value = λ told h v k. then_step told _ _ (course_going c.args.course) _ c.args.parts.now _ c.in-Some.part.now c.in-Some.others.now _ (passes (course_going c.in-Beyond.next)) c.loop-part.invariant.went
          (c.loop-part.invariant.value told (heard_before _ _ c.tree-in-Some.ensures.went told h)) c.in-Some.ensures.cases.0
          (c.ends_here.ensures.next c.if-ends_here.false) (c.in_ok-value.ensures.value told h) c.in-Beyond.ensures v (beyond_then _ _ _ _ _ _ c.split-in-Beyond.ensures k);
      small = let small = c.loop-part.invariant.small in let h = rest_falls _ _ _ c.in-Some.ensures.cases.0 in let k = rest_falls _ _ _ c.split-in-Beyond.ensures in omega (arith, h, k, small);
      visits = part_goes _ _ _ _ (course_going c.in-Beyond.next) (course_going c.args.course) c.args.parts.now _ c.in-Some.part.now c.in-Some.others.now c.split-in-Beyond.result.1.now _ (passes (course_going c.in-Beyond.next)) c.loop-part.invariant.went c.tree-in-Some.ensures.went
          c.loop-part.invariant.visits c.in-Some.ensures.cases.0 c.in_ok-value.ensures.visits c.in_ok-value.ensures.value c.in-Beyond.ensures
          (λ w a l h. subst (λ zs. TurnVisits (passes (course_going c.in-Beyond.next)) (parts w (all zs)) a l) (sym c.split-in-Beyond.ensures) h);
    }

-- ---- calls over tables

pub over_table-call_over-requires : goal.over_table-call_over-requires
over_table-call_over-requires g t c κs within = (
  let h = condition_falls c.args.parts.now c.from_ref-condition.result.now c.in-Some.condition.now c.in-Some.formula.now c.in-Some.ensures.1 c.from_ref-condition.ensures.value in omega (arith, h),
  (
    within.0,
    (
      within.1,
      subst (λ zs. CanEvaluate (g.E.Env.fixed c.args.env.now).types c.args.scope.now (of (over c.args.fun) (cons c.args.table.now (all zs)))) (sym c.from_ref-condition.ensures.value)
          (search_can _ _ c.args.fun c.args.table.now c.in-Some.condition.now c.in-Some.formula.now c.args.parts.now c.in-Some.ensures.0 c.in-Some.ensures.1 c.requires),
    ),
  ),
)

pub over_table-of_found-requires : goal.over_table-of_found-requires
over_table-of_found-requires g t c κs within = (
  let h = formula_falls c.args.parts.now c.in-Some.condition.now c.in-Some.formula.now c.in-Some.ensures.1 in omega (arith, h),
  (
    within.0,
    (
      within.1,
      as_before (λ types s. CanStand types s c.in-Some.formula.now (view c.in_ok-found-in-Some.found)) _ _ c.call_over.ensures.went
          (search_stands c.values_fit.ensures _ _ c.args.fun c.args.table.now c.in-Some.condition.now c.in-Some.formula.now c.args.parts.now (view c.in_ok-found-in-Some.found) c.in-Some.ensures.0 c.in-Some.ensures.1 c.requires
          (subst (λ zs. IsValue (around (g.E.Env.fixed c.args.env.now).types None c.args.scope.now) (of (over c.args.fun) (cons c.args.table.now (all zs))) (view c.in_ok-found-in-Some.found)) c.from_ref-condition.ensures.value
          (c.in_ok-found-in-Some.ensures.value None tt))),
    ),
  ),
)

pub over_table-returns-in_ok-found-in-Some-clause-value : goal.over_table-returns-in_ok-found-in-Some-clause-value
over_table-returns-in_ok-found-in-Some-clause-value g t c =
    IfOk-weaker c.of_found.result _ _
    (λ v k told h. searched_over c.args.fun (meaning c.args.table.now) c.in-Some.condition.now c.in-Some.formula.now _ c.args.parts.now _ (view c.in_ok-found-in-Some.found) (view v) c.in-Some.ensures.0 c.in-Some.ensures.1 c.from_ref-condition.ensures.value
    (c.in_ok-found-in-Some.ensures.value told (heard_before _ _ c.of_found.ensures.went told h))
    (held_before told (λ a. IsOfFound (view c.in_ok-found-in-Some.found) (meaning c.in-Some.formula.now) a (view v)) _ _ c.call_over.ensures.went (k told h)))
    c.of_found.ensures.value

pub over_table-returns-in_ok-found-in-Some-clause-visits : goal.over_table-returns-in_ok-found-in-Some-clause-visits
over_table-returns-in_ok-found-in-Some-clause-visits g t c =
    IfOk-weaker c.of_found.result _ _
    (λ v k. searched_visited _ _ _ c.args.fun c.args.table.now c.in-Some.condition.now c.in-Some.formula.now _ c.args.parts.now (view c.in_ok-found-in-Some.found) c.in-Some.ensures.0 c.in-Some.ensures.1 c.from_ref-condition.ensures.value
    c.call_over.ensures.went c.of_found.ensures.went c.in_ok-found-in-Some.ensures.visits c.in_ok-found-in-Some.ensures.value k)
    c.of_found.ensures.visits

pub over_table-returns-in-None-clause-visits : goal.over_table-returns-in-None-clause-visits
over_table-returns-in-None-clause-visits g t c =
    IfOk-weaker c.call_over-in-None.result _ _ (λ v k. whole_visited _ _ c.call_over-in-None.ensures.went c.args.fun c.args.table.now c.args.parts.now c.in-None.ensures k) c.call_over-in-None.ensures.visits

pub call_over-returns-in_ok-over-in-Ok-clause-visits : goal.call_over-returns-in_ok-over-in-Ok-clause-visits
call_over-returns-in_ok-over-in-Ok-clause-visits g t c =
    rows_go _ _ c.tree.ensures.went c.args.table.now (view c.in_ok-value.value) c.in_ok-value.ensures.visits c.in_ok-value.ensures.value _ c.args.fun c.args.parts.now c.in-Ok.rows c.as_slice.result.now c.part_answers.ensures.went c.in-Ok.ensures.0
    c.as_slice.ensures c.in-Ok.ensures.1 c.in_ok-answers-in-Ok.ensures.visits

pub call_over-returns-in-Err-clause-visits : goal.call_over-returns-in-Err-clause-visits
call_over-returns-in-Err-clause-visits g t c =
    rows_error _ _ c.tree.ensures.went c.args.table.now (view c.in_ok-value.value) c.in_ok-value.ensures.visits c.in_ok-value.ensures.value c.args.fun c.in-Err.fault c.args.parts.now c.in-Err.ensures

pub call_over-tree-requires : goal.call_over-tree-requires
call_over-tree-requires g t c κs within = (omega arith, (within.0, (within.1, table_can _ _ _ _ c.args.parts.now c.requires)))

pub call_over-part_answers-requires : goal.call_over-part_answers-requires
call_over-part_answers-requires g t c κs within = (
  omega arith,
  (
    within.0,
    (
      within.1,
      asked_there _ _ _ c.args.table.now c.args.parts.now (view c.in_ok-value.value) c.in-Ok.rows _ c.tree.ensures.went c.requires c.in_ok-value.ensures.fits c.in-Ok.ensures.0 c.as_slice.ensures,
    ),
  ),
)

pub call_over-over-requires : goal.call_over-over-requires
call_over-over-requires g t c =
    make_there None _ _ _ c.args.table.now c.args.parts.now _ (view c.in_ok-value.value) c.in-Ok.rows _ _ c.tree.ensures.went c.requires (c.in_ok-value.ensures.value None tt) c.in-Ok.ensures.0 c.as_slice.ensures
    (c.in_ok-answers-in-Ok.ensures.value None tt)

pub call_over-returns-in_ok-over-in-Ok-clause-value : goal.call_over-returns-in_ok-over-in-Ok-clause-value
call_over-returns-in_ok-over-in-Ok-clause-value g t c = λ told h.
    over_there told _ _ _ c.args.table.now c.args.parts.now _ (view c.in_ok-value.value) c.in-Ok.rows _ _ _ c.tree.ensures.went c.requires
    (c.in_ok-value.ensures.value told (heard_before _ _ c.part_answers.ensures.went told h)) c.in-Ok.ensures.0 c.in-Ok.ensures.1
    c.as_slice.ensures (c.in_ok-answers-in-Ok.ensures.value told h) c.in_ok-over-in-Ok.ensures

pub part_answers-answer-requires : goal.part_answers-answer-requires
part_answers-answer-requires g t c κs within = (
  let h = part_is_smaller c.args.parts.now c.loop-part.part-index c.part-item.result c.loop-part-test.true c.part-item.is in omega (arith, h),
  (
    within.0,
    (
      within.1,
      part_asked _ _ _ _ _ c.args.parts.now c.loop-part.part-index c.part-item.result _ c.is_formula-in_rows.result c.loop-part.invariant.went c.requires c.loop-part-test.true c.part-item.is
          (let k = c.loop-part.invariant.count in let l = c.len.ensures in omega (arith, k, l)) c.is_formula-in_rows.ensures,
    ),
  ),
)

pub part_answers-loop-part-preserved : goal.part_answers-loop-part-preserved
part_answers-loop-part-preserved g t c =
    let k = c.loop-part.invariant.count in
    let l = c.len.ensures in
    record {
      went = went_on _ _ _ c.loop-part.invariant.went c.answer.ensures.went;
      count = let e = ap length c.in_ok-push.ensures.items in let f = length-append c.loop-part.answers.items (c.in_ok-answer.answer ∷ []) in omega (arith, e, f, k);
      answers = λ told h. given_step _ _ c.args.parts.now _ _ c.loop-part.part-index _ c.part-item.result _ _ c.in_ok-answer.answer c.is_formula-in_rows.result c.loop-part-test.true c.part-item.is
          (c.loop-part.invariant.answers told (heard_before _ _ c.answer.ensures.went told h)) c.in_ok-push.ensures.items (omega (arith, k, l)) c.is_formula-in_rows.ensures
          (held_before told (λ a. PartGives (if c.is_formula-in_rows.result then inside else plain) (meaning c.part-item.result) a c.args.rows.now (argument_values c.in_ok-answer.answer)) _ _ c.loop-part.invariant.went
          (c.in_ok-answer.ensures.value told h));
      visits = parts_step _ _ _ c.args.fun _ c.args.rows.now c.args.parts.now c.loop-part.part-index _ c.part-item.result c.is_formula-in_rows.result c.loop-part-test.true c.part-item.is (omega (arith, k, l)) c.is_formula-in_rows.ensures
          c.loop-part.invariant.went c.answer.ensures.went c.loop-part.invariant.visits c.in_ok-answer.ensures.visits;
    }

pub each-in_scope-requires : goal.each-in_scope-requires
each-in_scope-requires g t c κs within = (
  omega arith,
  (
    within.0,
    (
      within.1,
      as_before (λ types s. CanEvaluate types (inner s (record_of c.in_ok-copy.field-0)) c.args.formula.now) _ _ c.loop-row.invariant.went
          (subst (λ r. CanEvaluate (g.E.Env.fixed c.args.env.now).types (inner c.args.scope.now (record_of r)) c.args.formula.now) (sym c.in_ok-copy.ensures)
          (inside_at _ _ _ c.args.rows.now c.loop-row.row-index c.row-item.result c.requires c.loop-row-test.true c.row-item.is)),
    ),
  ),
)

pub each-loop-row-preserved : goal.each-loop-row-preserved
each-loop-row-preserved g t c = record {
  went = went_on _ _ _ c.loop-row.invariant.went c.in_scope.ensures.went;
  values = λ told h. each_step (meaning c.args.formula.now) _ c.args.rows.now c.loop-row.row-index c.row-item.result _ _ c.in_ok-value.value c.loop-row-test.true c.row-item.is
      (c.loop-row.invariant.values told (heard_before _ _ c.in_scope.ensures.went told h))
      c.in_ok-push.ensures.items
      (meant_before told (meaning c.args.formula.now) (λ s. inner s (record_of c.row-item.result)) _ _ c.loop-row.invariant.went _
      (subst (λ r. IsValue (around (g.E.Env.fixed c.loop-row.env).types told (inner c.loop-row.scope (record_of r))) c.args.formula.now (view c.in_ok-value.value))
      c.in_ok-copy.ensures (c.in_ok-value.ensures.value told h)));
  visits = each_rows_step _ _ _ c.args.formula.now c.args.rows.now c.loop-row.row-index c.row-item.result c.in_ok-copy.field-0 c.loop-row-test.true c.row-item.is c.in_ok-copy.ensures c.loop-row.invariant.went c.in_scope.ensures.went c.loop-row.invariant.visits
      c.in_ok-value.ensures.visits;
}
