use Rattle.std.proofs.Common.{[], ℕ, List, ap, refl, subst, sym, ◌∙◌}
use Rattle.std.proofs.lemmas.Result.{IfOk-weaker, on_err_weaker}
use Rattle.fx_base.specs.Silence.{SilenceCause}
use Rattle.fx_core.specs.declared.schema.Schema.{Schema}
use Rattle.numbered_requests.specs.Replies.{said}
use Rattle.numbered_requests.specs.declared.directory.Named.{Named}
use Rattle.row_requests.specs.Sound.{AreSound}
use Rattle.session_state.specs.Sessions.{SessionState}
use Rattle.app_wire.specs.declared.route.Route.{Route}
use Rattle.app_wire.specs.declared.route.Route.TheVariants.{Begin, End, View, Named as Formulas, Items, Event, Input, Rows, Edit, Replace, Page, Plan, Graph}
use Rattle.session_views.specs.Galleries.{gallery_named}
use Rattle.numbered_requests.specs.Directory.{find}
use Rattle.row_requests.specs.Page.{VisitsPage}
use Rattle.row_requests.specs.Written.{IsNamedBy}
use Rattle.office.specs.Leaving.{AreEachLeft, ReplacementLeaves, nothing}
use Rattle.office.proofs.Leaving.{acts_begin, acts_event, acts_input, acts_quiet, each_same, err_always, leaves_begin, leaves_by, leaves_edit, leaves_end, leaves_event, leaves_graph, leaves_input, leaves_items, leaves_named, leaves_page, leaves_plan, leaves_replacement, leaves_rows, leaves_view, left_still, left_unchanged, ok_always, stops_begin, stops_event, stops_input, stops_quiet}
use Rattle.office.proofs.Costs.{costs_acting, costs_by, costs_items, costs_named, costs_page, costs_replacement, costs_rows, costs_still, costs_view}
use Rattle.office.proofs.Edits.{ready_edited}
use Rattle.office.proofs.Sent.{kept_order, kept_still}
use Rattle.office.specs.Caches.{AreKept}
use Rattle.office.specs.Costs.{CostOfItems, CostOfNamed, CostOfView, CostsTo, counts}
use Rattle.office.specs.Served.{office_of}
use Rattle.office.specs.State.{OfficeView}
use Rattle.office.proofs.StepLemmas.{does_event, does_input, does_replacement, left_read, left_seen, reaches_event, reaches_input, reaches_items, reaches_named, reaches_page, reaches_replacement, reaches_view, still_ready, stopped}
use Rattle.office.proofs.machine.Office.take.Goals as goal

pub returns-in-Page-clause-reached : goal.returns-in-Page-clause-reached
returns-in-Page-clause-reached g c failed =
    reaches_page c.args.self.now.state c.self.inside.app c.args.request.now.body.items c.args.route.now c.in-Page.table c.in-Page.after c.schema_of.result.now
    c.in-Page.is c.schema_of.ensures (sym (ap (λ (s : OfficeView). s.state.app) c.self.view_is)) (c.show_page.ensures.reached failed)

pub invariant_of-self-in-End : goal.invariant_of-self-in-End
invariant_of-self-in-End g c = record {
  idle = c.self.invariant.idle;
  shaped = c.self.invariant.shaped;
  sound = c.self.invariant.sound;
  kept = c.self.invariant.kept;
  accepted = c.self.invariant.accepted;
  loaded = c.self.invariant.loaded;
  opens = c.self.invariant.opens;
  fit = c.end.ensures.fit c.self.inside.app.names c.self.invariant.fit;
  replies = c.end.ensures.replies c.self.invariant.replies;
  cached = c.end.ensures.kept c.self.inside.app (g.K.Keeper.told c.self.inside.keeper) c.self.inside.moment c.self.invariant.cached;
}

pub returns-in-View-clause-reached : goal.returns-in-View-clause-reached
returns-in-View-clause-reached g c failed =
    reaches_view c.args.self.now.state c.deref.result.now c.args.request.now.body.items c.args.route.now c.in-View.name c.in-View.is
    (sym (ap (λ (s : OfficeView). s.state.sessions) c.self.view_is) ∙ sym c.deref.ensures.value) (c.show_view_to.ensures.reached failed)

pub returns-in-Named-clause-reached : goal.returns-in-Named-clause-reached
returns-in-Named-clause-reached g c failed =
    reaches_named c.args.self.now.state c.deref-in-Named.result.now c.args.request.now.body.items c.args.route.now c.in-Named.name c.in-Named.is
    (sym (ap (λ (s : OfficeView). s.state.sessions) c.self.view_is) ∙ sym c.deref-in-Named.ensures.value) (c.show_named.ensures.reached failed)

pub returns-in-Items-clause-reached : goal.returns-in-Items-clause-reached
returns-in-Items-clause-reached g c failed =
    reaches_items c.args.self.now.state c.self.inside.app c.deref-in-Items.result.now c.args.request.now.body.items c.args.route.now c.in-Items.name c.in-Items.gallery c.in-Items.from c.in-Items.is
    (sym (ap (λ (s : OfficeView). s.state.app) c.self.view_is)) (sym (ap (λ (s : OfficeView). s.state.sessions) c.self.view_is) ∙ sym c.deref-in-Items.ensures.value) (c.show_items_to.ensures.reached failed)

pub returns-in-Event-clause-reached : goal.returns-in-Event-clause-reached
returns-in-Event-clause-reached g c failed =
    reaches_event c.args.self.now.state c.self.inside.sessions.items c.args.request.now.body.items c.deref-in-Event.result.now c.args.route.now c.in-Event.name c.in-Event.is
    (sym (ap (λ (s : OfficeView). s.state.sessions) c.self.view_is)) c.deref-in-Event.ensures.value (c.post_event.ensures.reached failed)

pub returns-in-Input-clause-reached : goal.returns-in-Input-clause-reached
returns-in-Input-clause-reached g c failed =
    reaches_input c.args.self.now.state c.self.inside.sessions.items c.args.request.now.body.items c.deref-in-Input.result.now c.args.route.now c.in-Input.name c.in-Input.is
    (sym (ap (λ (s : OfficeView). s.state.sessions) c.self.view_is)) c.deref-in-Input.ensures.value (c.post_input.ensures.reached failed)

pub returns-in-View-clause-stopped : goal.returns-in-View-clause-stopped
returns-in-View-clause-stopped g c =
    stopped c.show_view_to.result _ (left_read _ _ c.self.inside.app c.self.inside.sessions.items c.self.inside.desks.items c.self.inside.caches.items c.self.inside.moment c.args.self.now c.self.view_is c.show_view_to.ensures.read)

pub invariant_of-self-in-View : goal.invariant_of-self-in-View
invariant_of-self-in-View g c =
    let kept = subst (λ (l : List (Named SessionState)). AreKept c.self.inside.app (g.K.Keeper.told c.show_view_to.new.keeper) c.self.inside.moment l c.show_view_to.new.caches.items) c.deref.ensures.value c.show_view_to.ensures.kept in
    still_ready c.self.inside.app _ _ c.self.inside.sessions.items c.self.inside.desks.items c.self.inside.caches.items c.show_view_to.new.caches.items c.self.inside.moment c.show_view_to.ensures.read kept c.self.invariant

pub returns-in-Named-clause-stopped : goal.returns-in-Named-clause-stopped
returns-in-Named-clause-stopped g c =
    stopped c.show_named.result _ (left_read _ _ c.self.inside.app c.self.inside.sessions.items c.self.inside.desks.items c.self.inside.caches.items c.self.inside.moment c.args.self.now c.self.view_is c.show_named.ensures.read)

pub invariant_of-self-in-Named : goal.invariant_of-self-in-Named
invariant_of-self-in-Named g c =
    let kept = subst (λ (l : List (Named SessionState)). AreKept c.self.inside.app (g.K.Keeper.told c.show_named.new.keeper) c.self.inside.moment l c.show_named.new.caches.items) c.deref-in-Named.ensures.value c.show_named.ensures.kept in
    still_ready c.self.inside.app _ _ c.self.inside.sessions.items c.self.inside.desks.items c.self.inside.caches.items c.show_named.new.caches.items c.self.inside.moment c.show_named.ensures.read kept c.self.invariant

pub returns-in-Items-clause-stopped : goal.returns-in-Items-clause-stopped
returns-in-Items-clause-stopped g c =
    stopped c.show_items_to.result _ (left_read _ _ c.self.inside.app c.self.inside.sessions.items c.self.inside.desks.items c.self.inside.caches.items c.self.inside.moment c.args.self.now c.self.view_is c.show_items_to.ensures.read)

pub invariant_of-self-in-Items : goal.invariant_of-self-in-Items
invariant_of-self-in-Items g c =
    let kept = subst (λ (l : List (Named SessionState)). AreKept c.self.inside.app (g.K.Keeper.told c.show_items_to.new.keeper) c.self.inside.moment l c.show_items_to.new.caches.items) c.deref-in-Items.ensures.value c.show_items_to.ensures.kept in
    still_ready c.self.inside.app _ _ c.self.inside.sessions.items c.self.inside.desks.items c.self.inside.caches.items c.show_items_to.new.caches.items c.self.inside.moment c.show_items_to.ensures.read kept c.self.invariant

pub change_rows-requires-clause-order : goal.change_rows-requires-clause-order
change_rows-requires-clause-order g c =
    kept_order c.self.inside.app (g.K.Keeper.told c.self.inside.keeper) c.self.inside.moment c.self.inside.sessions.items c.self.inside.caches.items c.self.invariant.cached

pub invariant_of-self-in-Edit : goal.invariant_of-self-in-Edit
invariant_of-self-in-Edit g c =
    ready_edited c.self.inside.app c.post_edit.new.app _ _ (g.K.Keeper.told c.self.inside.keeper) c.self.inside.sessions.items c.post_edit.new.sessions.items c.self.inside.desks.items c.post_edit.new.desks.items
    c.self.inside.caches.items c.post_edit.new.caches.items c.self.inside.moment c.self.invariant
    (record { sound = c.post_edit.ensures.sound; tables = c.post_edit.ensures.tables; frame = c.post_edit.ensures.frame }) c.post_edit.ensures.loaded c.post_edit.ensures.fit c.post_edit.ensures.kept c.post_edit.ensures.replies
    (c.post_edit.ensures.caches (g.K.Keeper.told c.self.inside.keeper) c.self.inside.moment c.self.invariant.cached)

pub invariant_of-self-in-Page : goal.invariant_of-self-in-Page
invariant_of-self-in-Page g c =
    let keeper = c.show_page.new.keeper in
    let ready = c.self.invariant in
    record {
      idle = c.show_page.ensures.idle;
      shaped = c.show_page.ensures.shaped ∙ ready.shaped;
      sound = subst (λ (s : Schema). AreSound s (g.K.Keeper.told keeper)) c.schema_of.ensures c.show_page.ensures.sound;
      kept = ready.kept;
      accepted = ready.accepted;
      loaded = ready.loaded;
      opens = ready.opens;
      fit = ready.fit;
      replies = ready.replies;
      cached = kept_still c.self.inside.app c.self.inside.moment (SilenceCause (g.K.Keeper.marks c.self.inside.keeper) (g.K.Keeper.marks keeper)) (g.K.Keeper.told c.self.inside.keeper) (g.K.Keeper.told keeper)
          c.self.inside.sessions.items c.self.inside.caches.items c.show_page.ensures.still ready.cached;
    }

pub post_edit-requires-clause-cached : goal.post_edit-requires-clause-cached
post_edit-requires-clause-cached g c = (g.K.Keeper.told c.self.inside.keeper, c.self.inside.moment, c.self.invariant.cached)

pub returns-in-View-clause-clean : goal.returns-in-View-clause-clean
returns-in-View-clause-clean g c =
    let body = c.args.request.now.body.items in
    leaves_by c.args.route.now (View c.in-View.name) body c.args.self.now _ _ c.show_view_to.new.caches.items c.in-View.is c.self.view_is (leaves_view c.in-View.name body _ _ c.self.inside.caches.items c.show_view_to.new.caches.items (left_still c.self.inside.app c.self.inside.caches.items c.show_view_to.new.caches.items c.show_view_to.ensures.clean))

pub returns-in-Named-clause-clean : goal.returns-in-Named-clause-clean
returns-in-Named-clause-clean g c =
    let body = c.args.request.now.body.items in
    leaves_by c.args.route.now (Formulas c.in-Named.name) body c.args.self.now _ _ c.show_named.new.caches.items c.in-Named.is c.self.view_is (leaves_named c.in-Named.name body _ _ c.self.inside.caches.items c.show_named.new.caches.items (left_still c.self.inside.app c.self.inside.caches.items c.show_named.new.caches.items c.show_named.ensures.clean))

pub returns-in-Items-clause-clean : goal.returns-in-Items-clause-clean
returns-in-Items-clause-clean g c =
    let body = c.args.request.now.body.items in
    leaves_by c.args.route.now (Items c.in-Items.name c.in-Items.gallery c.in-Items.from) body c.args.self.now _ _ c.show_items_to.new.caches.items c.in-Items.is c.self.view_is (leaves_items c.in-Items.name c.in-Items.gallery c.in-Items.from body _ _ c.self.inside.caches.items c.show_items_to.new.caches.items (left_still c.self.inside.app c.self.inside.caches.items c.show_items_to.new.caches.items c.show_items_to.ensures.clean))

pub returns-in-Page-clause-clean : goal.returns-in-Page-clause-clean
returns-in-Page-clause-clean g c =
    let body = c.args.request.now.body.items in
    leaves_by c.args.route.now (Page c.in-Page.table c.in-Page.after) body c.args.self.now _ _ c.self.inside.caches.items c.in-Page.is c.self.view_is (leaves_page c.in-Page.table c.in-Page.after body _ _ c.self.inside.caches.items c.self.inside.caches.items (left_still c.self.inside.app c.self.inside.caches.items c.self.inside.caches.items (each_same c.self.inside.app [] c.self.inside.caches.items)))

pub returns-after-show_plan-clause-clean : goal.returns-after-show_plan-clause-clean
returns-after-show_plan-clause-clean g c =
    let body = c.args.request.now.body.items in
    let old = c.args.self.now in
    leaves_by c.args.route.now Plan body old old old.state old.caches c.in-Plan.is refl (leaves_plan body old.state old.state old.caches old.caches (left_unchanged old.state.app old.caches))

pub returns-after-show_graph-clause-clean : goal.returns-after-show_graph-clause-clean
returns-after-show_graph-clause-clean g c =
    let body = c.args.request.now.body.items in
    let old = c.args.self.now in
    leaves_by c.args.route.now Graph body old old old.state old.caches c.in-Graph.is refl (leaves_graph body old.state old.state old.caches old.caches (left_unchanged old.state.app old.caches))

pub returns-in-Rows-clause-clean : goal.returns-in-Rows-clause-clean
returns-in-Rows-clause-clean g c =
    let body = c.args.request.now.body.items in
    leaves_by c.args.route.now (Rows c.in-Rows.name) body c.args.self.now _ _ c.change_rows.new.caches.items c.in-Rows.is c.self.view_is (leaves_rows c.in-Rows.name body _ _ c.self.inside.caches.items c.change_rows.new.caches.items (subst (λ (l : List ℕ). AreEachLeft c.self.inside.app (IsNamedBy c.self.inside.app.names.schema.tables c.self.inside.desks.items c.in-Rows.name l) c.self.inside.caches.items c.change_rows.new.caches.items) c.deref-in-Rows.ensures.value c.change_rows.ensures.clean))

pub returns-after-end-clause-clean : goal.returns-after-end-clause-clean
returns-after-end-clause-clean g c =
    let body = c.args.request.now.body.items in
    leaves_by c.args.route.now (End c.in-End.name) body c.args.self.now _ _ c.end.new.caches.items c.in-End.is c.self.view_is (leaves_end c.in-End.name body _ _ c.self.inside.caches.items c.end.new.caches.items (c.end.ensures.clean c.self.inside.app))

pub returns-after-post_edit-clause-clean : goal.returns-after-post_edit-clause-clean
returns-after-post_edit-clause-clean g c =
    let body = c.args.request.now.body.items in
    leaves_by c.args.route.now (Edit c.in-Edit.name) body c.args.self.now _ _ c.post_edit.new.caches.items c.in-Edit.is c.self.view_is (leaves_edit c.in-Edit.name body _ _ c.self.inside.caches.items c.post_edit.new.caches.items c.post_edit.ensures.over)

pub returns-in-Begin-clause-clean : goal.returns-in-Begin-clause-clean
returns-in-Begin-clause-clean g c =
    let body = c.args.request.now.body.items in
    leaves_by c.args.route.now (Begin c.in-Begin.name) body c.args.self.now _ _ c.begin.new.caches.items c.in-Begin.is c.self.view_is (leaves_begin c.in-Begin.name body _ _ c.self.inside.caches.items c.begin.new.caches.items c.begin.ensures.clean)

pub returns-in-Event-clause-clean : goal.returns-in-Event-clause-clean
returns-in-Event-clause-clean g c =
    let body = c.args.request.now.body.items in
    leaves_by c.args.route.now (Event c.in-Event.name) body c.args.self.now _ _ c.post_event.new.caches.items c.in-Event.is c.self.view_is (leaves_event c.in-Event.name body _ _ c.self.inside.caches.items c.post_event.new.caches.items c.post_event.ensures.clean)

pub returns-in-Input-clause-clean : goal.returns-in-Input-clause-clean
returns-in-Input-clause-clean g c =
    let body = c.args.request.now.body.items in
    leaves_by c.args.route.now (Input c.in-Input.name) body c.args.self.now _ _ c.post_input.new.caches.items c.in-Input.is c.self.view_is (leaves_input c.in-Input.name body _ _ c.self.inside.caches.items c.post_input.new.caches.items c.post_input.ensures.clean)

pub returns-in-Event-clause-acted : goal.returns-in-Event-clause-acted
returns-in-Event-clause-acted g c =
    IfOk-weaker c.post_event.result _ _ (λ r own.
    acts_event c.args.route.now c.in-Event.name c.args.request.now.body.items c.deref-in-Event.result.now c.args.self.now _ (g.K.Keeper.marks c.post_event.new.keeper) _ (said r) c.post_event.new.caches.items c.in-Event.is c.self.view_is c.deref-in-Event.ensures.value own) c.post_event.ensures.own

pub returns-in-Input-clause-acted : goal.returns-in-Input-clause-acted
returns-in-Input-clause-acted g c =
    IfOk-weaker c.post_input.result _ _ (λ r own.
    acts_input c.args.route.now c.in-Input.name c.args.request.now.body.items c.deref-in-Input.result.now c.args.self.now _ (g.K.Keeper.marks c.post_input.new.keeper) _ (said r) c.post_input.new.caches.items c.in-Input.is c.self.view_is c.deref-in-Input.ensures.value own) c.post_input.ensures.own

pub returns-in-View-clause-acted : goal.returns-in-View-clause-acted
returns-in-View-clause-acted g c = ok_always c.show_view_to.result _ (λ r. acts_quiet c.args.route.now (View c.in-View.name) _ _ c.args.request.now.body.items _ (said r) _ _ _ c.in-View.is tt)

pub returns-in-Named-clause-acted : goal.returns-in-Named-clause-acted
returns-in-Named-clause-acted g c = ok_always c.show_named.result _ (λ r. acts_quiet c.args.route.now (Formulas c.in-Named.name) _ _ c.args.request.now.body.items _ (said r) _ _ _ c.in-Named.is tt)

pub returns-in-Items-clause-acted : goal.returns-in-Items-clause-acted
returns-in-Items-clause-acted g c = ok_always c.show_items_to.result _ (λ r. acts_quiet c.args.route.now (Items c.in-Items.name c.in-Items.gallery c.in-Items.from) _ _ c.args.request.now.body.items _ (said r) _ _ _ c.in-Items.is tt)

pub returns-in-Page-clause-acted : goal.returns-in-Page-clause-acted
returns-in-Page-clause-acted g c = ok_always c.show_page.result _ (λ r. acts_quiet c.args.route.now (Page c.in-Page.table c.in-Page.after) _ _ c.args.request.now.body.items _ (said r) _ _ _ c.in-Page.is tt)

pub returns-in-Begin-clause-acted : goal.returns-in-Begin-clause-acted
returns-in-Begin-clause-acted g c =
    IfOk-weaker c.begin.result _ _ (λ r others.
    acts_begin c.args.route.now c.in-Begin.name c.args.request.now.body.items c.args.self.now _ (g.K.Keeper.marks c.begin.new.keeper) _ (said r) c.begin.new.caches.items c.in-Begin.is c.self.view_is others) c.begin.ensures.others

pub returns-in-Rows-clause-acted : goal.returns-in-Rows-clause-acted
returns-in-Rows-clause-acted g c = ok_always c.change_rows.result _ (λ r. acts_quiet c.args.route.now (Rows c.in-Rows.name) _ _ c.args.request.now.body.items _ (said r) _ _ _ c.in-Rows.is tt)

pub returns-after-end-clause-acted : goal.returns-after-end-clause-acted
returns-after-end-clause-acted g c = ok_always _ _ (λ r. acts_quiet c.args.route.now (End c.in-End.name) _ _ c.args.request.now.body.items _ _ _ _ _ c.in-End.is tt)

pub returns-after-post_edit-clause-acted : goal.returns-after-post_edit-clause-acted
returns-after-post_edit-clause-acted g c = ok_always _ _ (λ r. acts_quiet c.args.route.now (Edit c.in-Edit.name) _ _ c.args.request.now.body.items _ _ _ _ _ c.in-Edit.is tt)

pub returns-after-show_plan-clause-acted : goal.returns-after-show_plan-clause-acted
returns-after-show_plan-clause-acted g c = ok_always _ _ (λ r. acts_quiet c.args.route.now (Plan) _ _ c.args.request.now.body.items _ _ _ _ _ c.in-Plan.is tt)

pub returns-after-show_graph-clause-acted : goal.returns-after-show_graph-clause-acted
returns-after-show_graph-clause-acted g c = ok_always _ _ (λ r. acts_quiet c.args.route.now (Graph) _ _ c.args.request.now.body.items _ _ _ _ _ c.in-Graph.is tt)

pub returns-in-View-clause-costs : goal.returns-in-View-clause-costs
returns-in-View-clause-costs g c =
    let told = g.K.Keeper.told c.show_view_to.new.keeper in
    let before = counts c.args.steps.now (g.K.Keeper.visited c.self.inside.keeper) in
    let after = counts c.show_view_to.new.steps (g.K.Keeper.visited c.show_view_to.new.keeper) in
    let cs = c.self.inside.caches.items in
    let ds = c.show_view_to.new.caches.items in
    IfOk-weaker c.show_view_to.result _ _ (λ r costs.
    costs_by c.args.route.now (View c.in-View.name) c.args.self.now _ (said r) _ ds c.args.steps.now after c.in-View.is c.self.view_is (costs_view c.in-View.name (said r) c.self.inside.moment _ _ cs ds before after
    (subst (λ (l : List (Named SessionState)). CostsTo (CostOfView c.self.inside.app told c.self.inside.moment (said r)) c.in-View.name (find c.in-View.name l) cs ds before after) c.deref.ensures.value costs))) c.show_view_to.ensures.costs

pub returns-in-Named-clause-costs : goal.returns-in-Named-clause-costs
returns-in-Named-clause-costs g c =
    let told = g.K.Keeper.told c.show_named.new.keeper in
    let before = counts c.args.steps.now (g.K.Keeper.visited c.self.inside.keeper) in
    let after = counts c.show_named.new.steps (g.K.Keeper.visited c.show_named.new.keeper) in
    let cs = c.self.inside.caches.items in
    let ds = c.show_named.new.caches.items in
    IfOk-weaker c.show_named.result _ _ (λ r costs.
    costs_by c.args.route.now (Formulas c.in-Named.name) c.args.self.now _ (said r) _ ds c.args.steps.now after c.in-Named.is c.self.view_is (costs_named c.in-Named.name (said r) c.self.inside.moment _ _ cs ds before after
    (subst (λ (l : List (Named SessionState)). CostsTo (CostOfNamed c.self.inside.app told c.self.inside.moment) c.in-Named.name (find c.in-Named.name l) cs ds before after) c.deref-in-Named.ensures.value costs))) c.show_named.ensures.costs

pub returns-in-Items-clause-costs : goal.returns-in-Items-clause-costs
returns-in-Items-clause-costs g c =
    let told = g.K.Keeper.told c.show_items_to.new.keeper in
    let before = counts c.args.steps.now (g.K.Keeper.visited c.self.inside.keeper) in
    let after = counts c.show_items_to.new.steps (g.K.Keeper.visited c.show_items_to.new.keeper) in
    let cs = c.self.inside.caches.items in
    let ds = c.show_items_to.new.caches.items in
    IfOk-weaker c.show_items_to.result _ _ (λ r costs.
    costs_by c.args.route.now (Items c.in-Items.name c.in-Items.gallery c.in-Items.from) c.args.self.now _ (said r) _ ds c.args.steps.now after c.in-Items.is c.self.view_is (costs_items c.in-Items.name c.in-Items.gallery c.in-Items.from (said r) c.self.inside.moment _ _ cs ds before after
    (subst (λ (l : List (Named SessionState)). CostsTo (CostOfItems c.self.inside.app told c.self.inside.moment c.in-Items.from (gallery_named c.in-Items.gallery c.self.inside.app.names) (said r)) c.in-Items.name (find c.in-Items.name l) cs ds before after) c.deref-in-Items.ensures.value costs))) c.show_items_to.ensures.costs

pub returns-in-Page-clause-costs : goal.returns-in-Page-clause-costs
returns-in-Page-clause-costs g c =
    let told = g.K.Keeper.told c.show_page.new.keeper in
    let visited = g.K.Keeper.visited in
    ok_always c.show_page.result _ (λ r.
    costs_by c.args.route.now (Page c.in-Page.table c.in-Page.after) c.args.self.now _ (said r) _ c.self.inside.caches.items c.args.steps.now (counts c.args.steps.now (visited c.show_page.new.keeper)) c.in-Page.is c.self.view_is
    (costs_page c.in-Page.table c.in-Page.after (said r) c.self.inside.moment _ _ c.self.inside.caches.items c.self.inside.caches.items c.args.steps.now (visited c.self.inside.keeper) (visited c.show_page.new.keeper)
    (subst (λ (s : Schema). VisitsPage s.tables c.in-Page.table c.in-Page.after told (visited c.self.inside.keeper) (visited c.show_page.new.keeper)) c.schema_of.ensures c.show_page.ensures.visits)))

pub returns-in-Rows-clause-costs : goal.returns-in-Rows-clause-costs
returns-in-Rows-clause-costs g c =
    let visited = g.K.Keeper.visited in
    ok_always c.change_rows.result _ (λ r.
    costs_by c.args.route.now (Rows c.in-Rows.name) c.args.self.now _ (said r) _ c.change_rows.new.caches.items c.args.steps.now (counts c.args.steps.now (visited c.change_rows.new.keeper)) c.in-Rows.is c.self.view_is
    (costs_rows c.in-Rows.name (said r) c.self.inside.moment _ _ c.self.inside.caches.items c.change_rows.new.caches.items c.args.steps.now (visited c.self.inside.keeper) (visited c.change_rows.new.keeper)))

pub returns-after-end-clause-costs : goal.returns-after-end-clause-costs
returns-after-end-clause-costs g c =
    ok_always _ _ (λ r. costs_by c.args.route.now (End c.in-End.name) c.args.self.now _ _ _ c.end.new.caches.items c.args.steps.now _ c.in-End.is c.self.view_is
    (costs_still (End c.in-End.name) _ c.self.inside.moment _ _ c.self.inside.caches.items c.end.new.caches.items c.args.steps.now (g.K.Keeper.visited c.self.inside.keeper) tt))

pub returns-after-post_edit-clause-costs : goal.returns-after-post_edit-clause-costs
returns-after-post_edit-clause-costs g c =
    ok_always _ _ (λ r. costs_by c.args.route.now (Edit c.in-Edit.name) c.args.self.now _ _ _ c.post_edit.new.caches.items c.args.steps.now _ c.in-Edit.is c.self.view_is
    (costs_still (Edit c.in-Edit.name) _ c.self.inside.moment _ _ c.self.inside.caches.items c.post_edit.new.caches.items c.args.steps.now (g.K.Keeper.visited c.self.inside.keeper) tt))

pub returns-after-show_plan-clause-costs : goal.returns-after-show_plan-clause-costs
returns-after-show_plan-clause-costs g c =
    let old = c.args.self.now in
    ok_always _ _ (λ r. costs_by c.args.route.now Plan old old _ old.state old.caches c.args.steps.now (counts c.args.steps.now old.visited) c.in-Plan.is refl (costs_still Plan _ old.moment old.state old.state old.caches old.caches c.args.steps.now old.visited tt))

pub returns-after-show_graph-clause-costs : goal.returns-after-show_graph-clause-costs
returns-after-show_graph-clause-costs g c =
    let old = c.args.self.now in
    ok_always _ _ (λ r. costs_by c.args.route.now Graph old old _ old.state old.caches c.args.steps.now (counts c.args.steps.now old.visited) c.in-Graph.is refl (costs_still Graph _ old.moment old.state old.state old.caches old.caches c.args.steps.now old.visited tt))

pub returns-in-Begin-clause-costs : goal.returns-in-Begin-clause-costs
returns-in-Begin-clause-costs g c = ok_always c.begin.result _ (λ r. costs_acting c.args.route.now (Begin c.in-Begin.name) (said r) _ _ _ _ _ _ _ c.in-Begin.is tt)

pub returns-in-Event-clause-costs : goal.returns-in-Event-clause-costs
returns-in-Event-clause-costs g c = ok_always c.post_event.result _ (λ r. costs_acting c.args.route.now (Event c.in-Event.name) (said r) _ _ _ _ _ _ _ c.in-Event.is tt)

pub returns-in-Input-clause-costs : goal.returns-in-Input-clause-costs
returns-in-Input-clause-costs g c = ok_always c.post_input.result _ (λ r. costs_acting c.args.route.now (Input c.in-Input.name) (said r) _ _ _ _ _ _ _ c.in-Input.is tt)

pub returns-in-View-clause-cut : goal.returns-in-View-clause-cut
returns-in-View-clause-cut g c = err_always c.show_view_to.result _ (stops_quiet _ c.args.route.now (View c.in-View.name) c.args.request.now.body.items _ _ _ _ c.in-View.is tt)

pub returns-in-Named-clause-cut : goal.returns-in-Named-clause-cut
returns-in-Named-clause-cut g c = err_always c.show_named.result _ (stops_quiet _ c.args.route.now (Formulas c.in-Named.name) c.args.request.now.body.items _ _ _ _ c.in-Named.is tt)

pub returns-in-Items-clause-cut : goal.returns-in-Items-clause-cut
returns-in-Items-clause-cut g c = err_always c.show_items_to.result _ (stops_quiet _ c.args.route.now (Items c.in-Items.name c.in-Items.gallery c.in-Items.from) c.args.request.now.body.items _ _ _ _ c.in-Items.is tt)

pub returns-in-Page-clause-cut : goal.returns-in-Page-clause-cut
returns-in-Page-clause-cut g c = err_always c.show_page.result _ (stops_quiet _ c.args.route.now (Page c.in-Page.table c.in-Page.after) c.args.request.now.body.items _ _ _ _ c.in-Page.is tt)

pub returns-in-Rows-clause-cut : goal.returns-in-Rows-clause-cut
returns-in-Rows-clause-cut g c = err_always c.change_rows.result _ (stops_quiet _ c.args.route.now (Rows c.in-Rows.name) c.args.request.now.body.items _ _ _ _ c.in-Rows.is tt)

pub returns-after-end-clause-cut : goal.returns-after-end-clause-cut
returns-after-end-clause-cut g c = err_always _ _ (stops_quiet _ c.args.route.now (End c.in-End.name) c.args.request.now.body.items _ _ _ _ c.in-End.is tt)

pub returns-after-post_edit-clause-cut : goal.returns-after-post_edit-clause-cut
returns-after-post_edit-clause-cut g c = err_always _ _ (stops_quiet _ c.args.route.now (Edit c.in-Edit.name) c.args.request.now.body.items _ _ _ _ c.in-Edit.is tt)

pub returns-after-show_plan-clause-cut : goal.returns-after-show_plan-clause-cut
returns-after-show_plan-clause-cut g c = err_always _ _ (stops_quiet _ c.args.route.now Plan c.args.request.now.body.items _ _ _ _ c.in-Plan.is tt)

pub returns-in-Begin-clause-cut : goal.returns-in-Begin-clause-cut
returns-in-Begin-clause-cut g c =
    on_err_weaker c.begin.result (λ left. stops_begin c.args.route.now c.in-Begin.name c.args.request.now.body.items c.args.self.now _ _ c.begin.new.caches.items c.in-Begin.is c.self.view_is left) c.begin.ensures.cut

pub returns-in-Event-clause-cut : goal.returns-in-Event-clause-cut
returns-in-Event-clause-cut g c =
    on_err_weaker c.post_event.result (λ stopped.
    stops_event c.args.route.now c.in-Event.name c.args.request.now.body.items c.deref-in-Event.result.now c.args.self.now _ _ c.post_event.new.caches.items c.in-Event.is c.self.view_is c.deref-in-Event.ensures.value stopped) c.post_event.ensures.cut

pub returns-in-Input-clause-cut : goal.returns-in-Input-clause-cut
returns-in-Input-clause-cut g c =
    on_err_weaker c.post_input.result (λ stopped.
    stops_input c.args.route.now c.in-Input.name c.args.request.now.body.items c.deref-in-Input.result.now c.args.self.now _ _ c.post_input.new.caches.items c.in-Input.is c.self.view_is c.deref-in-Input.ensures.value stopped) c.post_input.ensures.cut

pub returns-after-show_graph-clause-cut : goal.returns-after-show_graph-clause-cut
returns-after-show_graph-clause-cut g c = err_always _ _ (stops_quiet _ c.args.route.now Graph c.args.request.now.body.items _ _ _ _ c.in-Graph.is tt)

pub returns-in-Event-clause-step : goal.returns-in-Event-clause-step
returns-in-Event-clause-step g c =
    IfOk-weaker c.post_event.result _ _ (λ r posts.
    does_event c.args.route.now c.in-Event.name c.args.request.now.body.items c.deref-in-Event.result.now c.args.self.now _ (g.K.Keeper.marks c.post_event.new.keeper) (g.K.Keeper.told c.post_event.new.keeper) c.post_event.new.sessions.items (said r)
    c.in-Event.is c.self.view_is c.deref-in-Event.ensures.value posts) c.post_event.ensures.done

pub returns-in-Input-clause-step : goal.returns-in-Input-clause-step
returns-in-Input-clause-step g c =
    IfOk-weaker c.post_input.result _ _ (λ r posts.
    does_input c.args.route.now c.in-Input.name c.args.request.now.body.items c.deref-in-Input.result.now c.args.self.now _ (g.K.Keeper.marks c.post_input.new.keeper) (g.K.Keeper.told c.post_input.new.keeper) c.post_input.new.sessions.items (said r)
    c.in-Input.is c.self.view_is c.deref-in-Input.ensures.value posts) c.post_input.ensures.done

-- a replacement

pub post_app-requires : goal.post_app-requires
post_app-requires g c = (c.self.inside.moment, c.self.invariant)

pub invariant_of-self-in-Replace : goal.invariant_of-self-in-Replace
invariant_of-self-in-Replace g c = c.post_app.ensures.ready c.self.inside.moment c.self.invariant

pub returns-in-Replace-clause-step : goal.returns-in-Replace-clause-step
returns-in-Replace-clause-step g c =
    IfOk-weaker c.post_app.result _ _ (λ r posts.
    does_replacement c.args.route.now c.in-Replace.name c.args.request.now.body.items c.deref-in-Replace.result.now c.args.self.now _ (g.K.Keeper.marks c.post_app.new.keeper) _ (said r)
    c.in-Replace.is c.self.view_is c.deref-in-Replace.ensures.value posts) c.post_app.ensures.done

pub returns-in-Replace-clause-stopped : goal.returns-in-Replace-clause-stopped
returns-in-Replace-clause-stopped g c =
    on_err_weaker c.post_app.result (λ left. left_seen c.args.self.now _ (g.K.Keeper.marks c.post_app.new.keeper) _ c.self.view_is left) c.post_app.ensures.stopped

pub returns-in-Replace-clause-reached : goal.returns-in-Replace-clause-reached
returns-in-Replace-clause-reached g c failed =
    reaches_replacement c.args.self.now.state _ c.args.request.now.body.items c.deref-in-Replace.result.now c.args.route.now c.in-Replace.name c.in-Replace.is
    (ap (λ (s : OfficeView). s.state) c.self.view_is) c.deref-in-Replace.ensures.value (c.post_app.ensures.reached failed)

pub returns-in-Replace-clause-clean : goal.returns-in-Replace-clause-clean
returns-in-Replace-clause-clean g c =
    let name = c.in-Replace.name in
    let body = c.args.request.now.body.items in
    let old = office_of g.K.Keeper c.self.inside.app c.self.inside.keeper c.self.inside.sessions.items c.self.inside.desks.items in
    let new = office_of g.K.Keeper c.post_app.new.app c.post_app.new.keeper c.post_app.new.sessions.items c.post_app.new.desks.items in
    let cs = c.self.inside.caches.items in
    let ds = c.post_app.new.caches.items in
    let leaves = subst (λ (l : List ℕ). ReplacementLeaves name l nothing old new cs ds) c.deref-in-Replace.ensures.value c.post_app.ensures.clean in
    leaves_by c.args.route.now (Replace name) body c.args.self.now _ _ ds c.in-Replace.is c.self.view_is (leaves_replacement name body old new cs ds leaves)

pub returns-in-Replace-clause-acted : goal.returns-in-Replace-clause-acted
returns-in-Replace-clause-acted g c = ok_always c.post_app.result _ (λ r. acts_quiet c.args.route.now (Replace c.in-Replace.name) _ _ c.args.request.now.body.items _ (said r) _ _ _ c.in-Replace.is tt)

pub returns-in-Replace-clause-costs : goal.returns-in-Replace-clause-costs
returns-in-Replace-clause-costs g c =
    let visited = g.K.Keeper.visited in
    ok_always c.post_app.result _ (λ r.
    costs_by c.args.route.now (Replace c.in-Replace.name) c.args.self.now _ (said r) _ c.post_app.new.caches.items c.args.steps.now (counts c.args.steps.now (visited c.post_app.new.keeper)) c.in-Replace.is c.self.view_is
    (costs_replacement c.in-Replace.name (said r) c.self.inside.moment _ _ c.self.inside.caches.items c.post_app.new.caches.items c.args.steps.now (visited c.self.inside.keeper) (visited c.post_app.new.keeper)))

pub returns-in-Replace-clause-cut : goal.returns-in-Replace-clause-cut
returns-in-Replace-clause-cut g c = err_always c.post_app.result _ (stops_quiet _ c.args.route.now (Replace c.in-Replace.name) c.args.request.now.body.items _ _ _ _ c.in-Replace.is tt)
