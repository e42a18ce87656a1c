use Rattle.std.proofs.Common.{[], ◌<◌, Option, ap, arith, length, refl, string_bytes, subst, sym, ◌∙◌}
use Rattle.std.specs.Prelude.{IsSome}
use Rattle.app_wire.specs.ReplyBytes.{reply}
use Rattle.fx_base.specs.Silence.{SilenceCause}
use Rattle.numbered_requests.specs.Replies.{said}
use Rattle.row_keeper.specs.Tables.{rows_told}
use Rattle.recalc.proofs.Asked.{heard_told}
use Rattle.session_state.specs.Sessions.{SessionState}
use Rattle.office.specs.Sessions.{ShowsNamedTo}
use Rattle.office.proofs.Costs.{costs_there}
use Rattle.office.proofs.Leaving.{each_set}
use Rattle.office.specs.Costs.{CostOfNamed, counts}
use Rattle.office.proofs.Sent.{found_here, kept_after, place_within, shown_there}
use Rattle.office.proofs.sessions.show_named.Goals as goal

pub returns-clause-done : goal.returns-clause-done
returns-clause-done g c =
    let told = g.K.Keeper.told c.named_body.new.keeper in
    let lost = SilenceCause (g.K.Keeper.marks c.args.keeper.now) (g.K.Keeper.marks c.named_body.new.keeper) in
    subst (λ (o : Option SessionState). ShowsNamedTo lost c.args.app.now c.args.moment o (g.K.Keeper.told c.args.keeper.now) (said c.in_ok-accept.field-0) told)
    (sym (found_here c.args.name.now c.args.sessions.now c.in-Some.place c.index-sessions-place.result c.in-Some.ensures.place c.in-Some.ensures.within))
    ((string_bytes c.in_ok-body.body, c.in_ok-body.ensures.body (rows_told told) (heard_told told), c.in_ok-accept.ensures.said ∙ ap (reply 200) c.deref.ensures), c.in_ok-body.ensures.read.told)

pub index_mut-requires : goal.index_mut-requires
index_mut-requires g c =
    let there = place_within c.args.app.now (g.K.Keeper.told c.args.keeper.now) c.args.moment c.args.sessions.now c.args.caches.now.items c.in-Some.place c.requires.kept c.in-Some.ensures.within in
    omega (arith, there, c.args.caches.now.ok.0)

pub named_body-requires-clause-day : goal.named_body-requires-clause-day
named_body-requires-clause-day g c =
    (shown_there c.args.app.now (g.K.Keeper.told c.args.keeper.now) c.args.moment c.args.sessions.now c.args.caches.now.items c.in-Some.place c.index-sessions-place.result c.index_mut.result.now c.requires.kept c.in-Some.ensures.within c.index_mut.ensures.value).cached.day

pub named_body-requires-clause-order : goal.named_body-requires-clause-order
named_body-requires-clause-order g c =
    (shown_there c.args.app.now (g.K.Keeper.told c.args.keeper.now) c.args.moment c.args.sessions.now c.args.caches.now.items c.in-Some.place c.index-sessions-place.result c.index_mut.result.now c.requires.kept c.in-Some.ensures.within c.index_mut.ensures.value).cached.order

pub named_body-requires-clause-right : goal.named_body-requires-clause-right
named_body-requires-clause-right g c =
    (shown_there c.args.app.now (g.K.Keeper.told c.args.keeper.now) c.args.moment c.args.sessions.now c.args.caches.now.items c.in-Some.place c.index-sessions-place.result c.index_mut.result.now c.requires.kept c.in-Some.ensures.within c.index_mut.ensures.value).cached.right

pub returns-in_err-body-clause-reached : goal.returns-in_err-body-clause-reached
returns-in_err-body-clause-reached g c failed =
    let found = found_here c.args.name.now c.args.sessions.now c.in-Some.place c.index-sessions-place.result c.in-Some.ensures.place c.in-Some.ensures.within in
    subst (λ (o : Option SessionState). IsSome o) (sym found) refl

pub returns-in_err-body-clause-kept : goal.returns-in_err-body-clause-kept
returns-in_err-body-clause-kept g c =
    let told = g.K.Keeper.told in
    kept_after c.args.app.now c.args.moment (SilenceCause (g.K.Keeper.marks c.args.keeper.now) (g.K.Keeper.marks c.named_body.new.keeper)) (told c.args.keeper.now) (told c.named_body.new.keeper)
    c.args.sessions.now c.args.caches.now.items c.in-Some.place c.index-sessions-place.result c.index_mut.result.now c.named_body.new.cache
    c.requires.kept c.in-Some.ensures.within c.index_mut.ensures.value c.named_body.ensures.read.told c.named_body.ensures.order c.named_body.ensures.right c.named_body.ensures.day

pub returns-in_err-accept-clause-kept : goal.returns-in_err-accept-clause-kept
returns-in_err-accept-clause-kept g c =
    let told = g.K.Keeper.told in
    kept_after c.args.app.now c.args.moment (SilenceCause (g.K.Keeper.marks c.args.keeper.now) (g.K.Keeper.marks c.named_body.new.keeper)) (told c.args.keeper.now) (told c.named_body.new.keeper)
    c.args.sessions.now c.args.caches.now.items c.in-Some.place c.index-sessions-place.result c.index_mut.result.now c.named_body.new.cache
    c.requires.kept c.in-Some.ensures.within c.index_mut.ensures.value c.named_body.ensures.read.told c.named_body.ensures.order c.named_body.ensures.right c.named_body.ensures.day

pub returns-clause-kept : goal.returns-clause-kept
returns-clause-kept g c =
    let told = g.K.Keeper.told in
    kept_after c.args.app.now c.args.moment (SilenceCause (g.K.Keeper.marks c.args.keeper.now) (g.K.Keeper.marks c.named_body.new.keeper)) (told c.args.keeper.now) (told c.named_body.new.keeper)
    c.args.sessions.now c.args.caches.now.items c.in-Some.place c.index-sessions-place.result c.index_mut.result.now c.named_body.new.cache
    c.requires.kept c.in-Some.ensures.within c.index_mut.ensures.value c.named_body.ensures.read.told c.named_body.ensures.order c.named_body.ensures.right c.named_body.ensures.day

pub returns-in_err-body-clause-clean : goal.returns-in_err-body-clause-clean
returns-in_err-body-clause-clean g c =
    let within = place_within c.args.app.now (g.K.Keeper.told c.args.keeper.now) c.args.moment c.args.sessions.now c.args.caches.now.items c.in-Some.place c.requires.kept c.in-Some.ensures.within in
    each_set c.args.app.now [] c.args.caches.now.items c.in-Some.place c.index_mut.result.now c.named_body.new.cache within c.index_mut.ensures.value c.named_body.ensures.but

pub returns-in_err-accept-clause-clean : goal.returns-in_err-accept-clause-clean
returns-in_err-accept-clause-clean g c =
    let within = place_within c.args.app.now (g.K.Keeper.told c.args.keeper.now) c.args.moment c.args.sessions.now c.args.caches.now.items c.in-Some.place c.requires.kept c.in-Some.ensures.within in
    each_set c.args.app.now [] c.args.caches.now.items c.in-Some.place c.index_mut.result.now c.named_body.new.cache within c.index_mut.ensures.value c.named_body.ensures.but

pub returns-clause-clean : goal.returns-clause-clean
returns-clause-clean g c =
    let within = place_within c.args.app.now (g.K.Keeper.told c.args.keeper.now) c.args.moment c.args.sessions.now c.args.caches.now.items c.in-Some.place c.requires.kept c.in-Some.ensures.within in
    each_set c.args.app.now [] c.args.caches.now.items c.in-Some.place c.index_mut.result.now c.named_body.new.cache within c.index_mut.ensures.value c.named_body.ensures.but

pub returns-clause-costs : goal.returns-clause-costs
returns-clause-costs g c =
    let told = g.K.Keeper.told in
    costs_there (CostOfNamed c.args.app.now (told c.named_body.new.keeper) c.args.moment) c.args.app.now (told c.args.keeper.now) c.args.moment c.args.name.now c.args.sessions.now c.args.caches.now.items c.in-Some.place c.index-sessions-place.result c.index_mut.result.now c.named_body.new.cache
    (counts c.args.steps.now (g.K.Keeper.visited c.args.keeper.now)) (counts c.named_body.new.steps (g.K.Keeper.visited c.named_body.new.keeper)) c.requires.kept c.in-Some.ensures.place c.in-Some.ensures.within c.index_mut.ensures.value
    (c.in_ok-body.ensures.made, λ room. (c.named_body.ensures.left room, c.in_ok-body.ensures.ticks room, c.in_ok-body.ensures.visits room))
