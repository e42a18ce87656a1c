use Rattle.std.proofs.Common.{[], ◌<◌, length, Option, Some, arith, get_or, refl, subst, sym}
use Rattle.std.specs.Prelude.{IsSome}
use Rattle.std.proofs.lemmas.Result.{IfOk-weaker}
use Rattle.session_views.specs.Galleries.{gallery_named}
use Rattle.session_views.specs.Shows.{ShowsItemsTo}
use Rattle.fx_base.specs.Silence.{SilenceCause}
use Rattle.numbered_requests.specs.Replies.{said}
use Rattle.session_state.specs.Sessions.{SessionState}
use Rattle.office.proofs.Costs.{costs_there, ok_all}
use Rattle.office.proofs.Leaving.{each_set}
use Rattle.office.specs.Costs.{CostOfItems, counts}
use Rattle.office.proofs.Sent.{found_here, kept_after, place_within, shown_there}
use Rattle.office.proofs.sessions.show_items_to.Goals as goal

pub index_mut-requires : goal.index_mut-requires
index_mut-requires g c =
    let there = place_within c.args.app.now (g.K.Keeper.told c.args.keeper.now) c.args.moment c.args.sessions.now c.args.caches.now.items c.in-Some.place c.requires.kept c.in-Some.ensures.within in
    omega (arith, there, c.args.caches.now.ok.0)

pub show_items-requires-clause-day : goal.show_items-requires-clause-day
show_items-requires-clause-day g c =
    (shown_there c.args.app.now (g.K.Keeper.told c.args.keeper.now) c.args.moment c.args.sessions.now c.args.caches.now.items c.in-Some.place c.index-sessions-place.result c.index_mut.result.now c.requires.kept c.in-Some.ensures.within c.index_mut.ensures.value).cached.day

pub show_items-requires-clause-order : goal.show_items-requires-clause-order
show_items-requires-clause-order g c =
    (shown_there c.args.app.now (g.K.Keeper.told c.args.keeper.now) c.args.moment c.args.sessions.now c.args.caches.now.items c.in-Some.place c.index-sessions-place.result c.index_mut.result.now c.requires.kept c.in-Some.ensures.within c.index_mut.ensures.value).cached.order

pub show_items-requires-clause-right : goal.show_items-requires-clause-right
show_items-requires-clause-right g c =
    (shown_there c.args.app.now (g.K.Keeper.told c.args.keeper.now) c.args.moment c.args.sessions.now c.args.caches.now.items c.in-Some.place c.index-sessions-place.result c.index_mut.result.now c.requires.kept c.in-Some.ensures.within c.index_mut.ensures.value).cached.right

pub returns-clause-done : goal.returns-clause-done
returns-clause-done g c =
    let told = g.K.Keeper.told in
    let lost = SilenceCause (g.K.Keeper.marks c.args.keeper.now) (g.K.Keeper.marks c.show_items.new.keeper) in
    let found = found_here c.args.name.now c.args.sessions.now c.in-Some.place c.index-sessions-place.result c.in-Some.ensures.place c.in-Some.ensures.within in
    IfOk-weaker c.show_items.result _ _ (λ r h. subst (λ (o : Option SessionState). ShowsItemsTo lost c.args.app.now c.args.moment c.args.gallery.now c.args.from o (told c.args.keeper.now) (said r) (told c.show_items.new.keeper)) (sym found) h) c.show_items.ensures.done

pub returns-clause-reached : goal.returns-clause-reached
returns-clause-reached g c failed =
    let found = found_here c.args.name.now c.args.sessions.now c.in-Some.place c.index-sessions-place.result c.in-Some.ensures.place c.in-Some.ensures.within in
    (subst (λ (o : Option SessionState). IsSome o) (sym found) refl, c.show_items.ensures.reached failed)

pub returns-clause-kept : goal.returns-clause-kept
returns-clause-kept g c =
    let told = g.K.Keeper.told in
    kept_after c.args.app.now c.args.moment (SilenceCause (g.K.Keeper.marks c.args.keeper.now) (g.K.Keeper.marks c.show_items.new.keeper)) (told c.args.keeper.now) (told c.show_items.new.keeper)
    c.args.sessions.now c.args.caches.now.items c.in-Some.place c.index-sessions-place.result c.index_mut.result.now c.show_items.new.cache
    c.requires.kept c.in-Some.ensures.within c.index_mut.ensures.value c.show_items.ensures.read.told c.show_items.ensures.order c.show_items.ensures.right c.show_items.ensures.day

pub returns-clause-clean : goal.returns-clause-clean
returns-clause-clean g c =
    let within = place_within c.args.app.now (g.K.Keeper.told c.args.keeper.now) c.args.moment c.args.sessions.now c.args.caches.now.items c.in-Some.place c.requires.kept c.in-Some.ensures.within in
    each_set c.args.app.now [] c.args.caches.now.items c.in-Some.place c.index_mut.result.now c.show_items.new.cache within c.index_mut.ensures.value c.show_items.ensures.but

pub returns-clause-costs : goal.returns-clause-costs
returns-clause-costs g c =
    let told = g.K.Keeper.told in
    ok_all c.show_items.result _ _ _ _ (λ r ticks visits made.
    costs_there (CostOfItems c.args.app.now (told c.show_items.new.keeper) c.args.moment c.args.from (gallery_named c.args.gallery.now c.args.app.now.names) (said r)) c.args.app.now (told c.args.keeper.now) c.args.moment c.args.name.now c.args.sessions.now c.args.caches.now.items c.in-Some.place c.index-sessions-place.result c.index_mut.result.now c.show_items.new.cache
    (counts c.args.steps.now (g.K.Keeper.visited c.args.keeper.now)) (counts c.show_items.new.steps (g.K.Keeper.visited c.show_items.new.keeper)) c.requires.kept c.in-Some.ensures.place c.in-Some.ensures.within c.index_mut.ensures.value (made, λ room. (c.show_items.ensures.left room, ticks room, visits room))) c.show_items.ensures.ticks c.show_items.ensures.visits c.show_items.ensures.made
