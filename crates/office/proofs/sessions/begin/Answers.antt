use Rattle.std.proofs.Common.{◌≡◌, ◌∙◌, ℕ, List, None, Option, Some, ap, refl, subst, sym}
use Rattle.std.specs.Prelude.{IfSome, option_map, slice_get}
use Rattle.fx_base.specs.Silence.{SilenceCause}
use Rattle.fx_core.specs.declared.sources.Source.{Source}
use Rattle.recalc.specs.Kept.{CacheState}
use Rattle.numbered_requests.specs.declared.directory.Named.{Named}
use Rattle.session_state.specs.Changes.{FitsNames}
use Rattle.session_state.specs.Sessions.{SessionState, opened}
use Rattle.office.specs.Caches.{EachCacheBecame, AreKept, IsToldAside, tables_in}
use Rattle.session_views.specs.Shows.{LiveSessionsFit}
use Rattle.office.specs.Leaving.{SessionsLeft, AreLeftBeside, any_table, nothing}
use Rattle.office.specs.Sessions.{BeginsChecked, begin_checks}
use Rattle.numbered_requests.specs.Directory.{put_named}
use Rattle.numbered_requests.specs.Checked.{SessionsKeepReplies}
use Rattle.numbered_requests.specs.Replies.{IsReply, said}
use Rattle.numbered_requests.specs.declared.reply.Reply.{Reply}
use Rattle.office.proofs.Leaving.{beside_begun, beside_opened, beside_same, checked_leaves, err_always, left_unchanged, opened_leaves}
use Rattle.office.proofs.Directories.{begun_keep, put_all}
use Rattle.office.proofs.Sent.{kept_begun, kept_order, kept_still}
use Rattle.office.proofs.Touching.{new_cached}
use Rattle.office.proofs.sessions.begin.Goals as goal

-- where nothing is said no check breaks
passed : (checks : Option (List ℕ)) (o : Option Reply) → ((r : Reply) → o ≡ Some r → ⊥) → option_map said o ≡ checks → checks ≡ None
passed checks None none is = sym is
passed checks (Some r) none is = absurd (none r refl)

pub returns-clause-replies : goal.returns-clause-replies
returns-clause-replies g c =
    begun_keep c.in_ok-made.made.name c.in_ok-session.session c.in_ok-session.ensures.opens.end c.args.sessions.now.items c.prepare.new.sessions.items c.put.new.list.items
    c.in_ok-session.ensures.opens.left c.requires.replies c.prepare.ensures.sessions c.put.ensures

pub open_session-requires-clause-cached : goal.open_session-requires-clause-cached
open_session-requires-clause-cached g c =
    new_cached c.args.app.now (opened c.args.app.now.names) (g.K.Keeper.told c.args.keeper.now) c.args.moment c.in_ok-made.made.cache c.in_ok-made.ensures.cache

pub touch_others-requires-clause-order : goal.touch_others-requires-clause-order
touch_others-requires-clause-order g c = λ k x at.
    kept_order c.args.app.now (g.K.Keeper.told c.args.keeper.now) c.args.moment c.args.sessions.now.items c.args.caches.now.items c.requires.kept k x
    (subst (λ (l : List (Named CacheState)). slice_get l k ≡ Some x) c.prepare.ensures.caches at)

pub returns-in_err-session-clause-kept : goal.returns-in_err-session-clause-kept
returns-in_err-session-clause-kept g c =
    let told = g.K.Keeper.told in
    let app = c.args.app.now in
    let m = c.args.moment in
    let still = kept_still app m (SilenceCause (g.K.Keeper.marks c.args.keeper.now) (g.K.Keeper.marks c.open_session.new.keeper)) (told c.args.keeper.now) (told c.open_session.new.keeper) c.args.sessions.now.items c.args.caches.now.items
    c.in_err-session.ensures.stopped c.requires.kept in
    subst (λ (l : List (Named SessionState)). AreKept app (told c.open_session.new.keeper) m l c.prepare.new.caches.items) (sym c.prepare.ensures.sessions)
    (subst (λ (l : List (Named CacheState)). AreKept app (told c.open_session.new.keeper) m c.args.sessions.now.items l) (sym c.prepare.ensures.caches) still)

pub returns-clause-fit : goal.returns-clause-fit
returns-clause-fit g c =
    let names = c.args.app.now.names in
    subst (λ (l : List (Named SessionState)). LiveSessionsFit names l) (sym c.put.ensures)
    (put_all SessionState (λ (n : Named SessionState). FitsNames names n.it) c.in_ok-made.made.name c.in_ok-session.session c.prepare.new.sessions.items
    (subst (λ (l : List (Named SessionState)). LiveSessionsFit names l) (sym c.prepare.ensures.sessions) c.requires.fit) c.in_ok-session.ensures.opens.fits)

pub returns-clause-kept : goal.returns-clause-kept
returns-clause-kept g c =
    let told = g.K.Keeper.told in
    let app = c.args.app.now in
    kept_begun app c.args.moment (SilenceCause (g.K.Keeper.marks c.args.keeper.now) (g.K.Keeper.marks c.open_session.new.keeper)) c.open_session.new.wrote.items (told c.args.keeper.now) (told c.open_session.new.keeper)
    c.in_ok-made.made.name c.in_ok-made.made.copy c.args.sessions.now.items c.prepare.new.sessions.items c.put.new.list.items c.args.caches.now.items c.prepare.new.caches.items c.touch_others.new.caches.items c.put-2.new.list.items c.in_ok-session.session c.open_session.new.cache
    c.requires.sound c.open_session.ensures.tables c.requires.kept c.prepare.ensures.sessions c.prepare.ensures.caches
    (subst (λ (ws : List Source). EachCacheBecame (IsToldAside c.args.app.now None (tables_in ws)) c.prepare.new.caches.items c.touch_others.new.caches.items) c.deref-2.ensures.value c.touch_others.ensures.told)
    c.put.ensures c.put-2.ensures (c.in_ok-made.ensures.copy ∙ sym c.in_ok-made.ensures.name) c.in_ok-session.ensures.cached

pub returns-in_err-session-clause-clean : goal.returns-in_err-session-clause-clean
returns-in_err-session-clause-clean g c =
    subst (λ (l : List (Named CacheState)). AreLeftBeside c.args.app.now c.args.name.now any_table c.args.caches.now.items l) (sym c.prepare.ensures.caches) (beside_same c.args.app.now c.args.name.now any_table c.args.caches.now.items)

pub returns-clause-clean : goal.returns-clause-clean
returns-clause-clean g c =
    beside_begun c.args.app.now c.args.name.now c.in_ok-made.made.copy c.open_session.new.wrote.items c.args.caches.now.items c.prepare.new.caches.items c.touch_others.new.caches.items c.put-2.new.list.items c.open_session.new.cache
    c.prepare.ensures.caches c.in_ok-made.ensures.copy
    (subst (λ (ws : List Source). EachCacheBecame (IsToldAside c.args.app.now None (tables_in ws)) c.prepare.new.caches.items c.touch_others.new.caches.items) c.deref-2.ensures.value c.touch_others.ensures.told) c.put-2.ensures

pub returns-in_err-session-clause-cut : goal.returns-in_err-session-clause-cut
returns-in_err-session-clause-cut g c = err_always _ _ (subst (λ (l : List (Named CacheState)). SessionsLeft c.args.app.now nothing c.args.caches.now.items l) (sym c.prepare.ensures.caches) (left_unchanged c.args.app.now c.args.caches.now.items))

pub returns-clause-others : goal.returns-clause-others
returns-clause-others g c =
    let told = g.K.Keeper.told in
    let lost = SilenceCause (g.K.Keeper.marks c.args.keeper.now) (g.K.Keeper.marks c.open_session.new.keeper) in
    let app = c.args.app.now in
    let h = c.in_ok-session.ensures.wrote in
    let ws = c.open_session.new.wrote.items in
    opened_leaves lost app c.args.moment c.args.name.now (begin_checks c.args.name.now c.args.sessions.now.items) (told c.args.keeper.now) c.args.sessions.now.items (said c.in_ok-made.made.reply) (told c.open_session.new.keeper) c.put.new.list.items
    c.args.caches.now.items c.put-2.new.list.items ws
    (passed (begin_checks c.args.name.now c.args.sessions.now.items) c.in_ok-reply.field-0 c.in_default.not-Some (c.in_ok-reply.ensures.said ∙ ap (begin_checks c.args.name.now) c.deref.ensures.value)) (
      record {
        session = c.in_ok-session.session;
        opens = h.0;
        replied = c.in_ok-made.ensures.said;
        keeps = c.put.ensures ∙ (λ i. put_named (c.in_ok-made.ensures.name i) c.in_ok-session.session (c.prepare.ensures.sessions i));
      },
      h.1,
    )
    (beside_opened app c.args.name.now c.in_ok-made.made.copy ws c.args.caches.now.items c.prepare.new.caches.items c.touch_others.new.caches.items c.put-2.new.list.items c.open_session.new.cache
    c.prepare.ensures.caches c.in_ok-made.ensures.copy
    (subst (λ (l : List Source). EachCacheBecame (IsToldAside app None (tables_in l)) c.prepare.new.caches.items c.touch_others.new.caches.items) c.deref-2.ensures.value c.touch_others.ensures.told) c.put-2.ensures)

-- what is said without opening one
pub returns-in-Some-clause-done : goal.returns-in-Some-clause-done
returns-in-Some-clause-done g c =
    let told = g.K.Keeper.told c.args.keeper.now in
    let lost = SilenceCause (g.K.Keeper.marks c.args.keeper.now) (g.K.Keeper.marks c.args.keeper.now) in
    let ss = c.args.sessions.now.items in
    subst (λ (o : Option (List ℕ)). BeginsChecked lost c.args.app.now c.args.moment c.args.name.now o told ss (said c.in-Some.reply) told ss)
    (ap (option_map said) (sym c.in-Some.is) ∙ c.in_ok-reply.ensures.said ∙ ap (begin_checks c.args.name.now) c.deref.ensures.value) (refl, refl, refl)

pub returns-in-Some-clause-others : goal.returns-in-Some-clause-others
returns-in-Some-clause-others g c =
    let told = g.K.Keeper.told c.args.keeper.now in
    let lost = SilenceCause (g.K.Keeper.marks c.args.keeper.now) (g.K.Keeper.marks c.args.keeper.now) in
    let ss = c.args.sessions.now.items in
    checked_leaves lost c.args.app.now c.args.moment c.args.name.now (begin_checks c.args.name.now ss) (said c.in-Some.reply) told ss (said c.in-Some.reply) told ss c.args.caches.now.items
    (sym (ap (option_map said) (sym c.in-Some.is) ∙ c.in_ok-reply.ensures.said ∙ ap (begin_checks c.args.name.now) c.deref.ensures.value))

pub returns-in-Some-clause-whole : goal.returns-in-Some-clause-whole
returns-in-Some-clause-whole g c = subst (λ (o : Option Reply). IfSome o IsReply) c.in-Some.is c.in_ok-reply.ensures.whole

pub returns-in_err-session-clause-reached : goal.returns-in_err-session-clause-reached
returns-in_err-session-clause-reached g c failed =
    passed (begin_checks c.args.name.now c.args.sessions.now.items) c.in_ok-reply.field-0 c.in_default.not-Some (c.in_ok-reply.ensures.said ∙ ap (begin_checks c.args.name.now) c.deref.ensures.value)

-- there is no memory
pub returns-in_err-made-clause-fit : goal.returns-in_err-made-clause-fit
returns-in_err-made-clause-fit g c = subst (λ (l : List (Named SessionState)). LiveSessionsFit c.args.app.now.names l) (sym c.prepare.ensures.sessions) c.requires.fit

pub returns-in_err-made-clause-replies : goal.returns-in_err-made-clause-replies
returns-in_err-made-clause-replies g c = subst SessionsKeepReplies (sym c.prepare.ensures.sessions) c.requires.replies

pub returns-in_err-made-clause-kept : goal.returns-in_err-made-clause-kept
returns-in_err-made-clause-kept g c =
    let told = g.K.Keeper.told c.args.keeper.now in
    subst (λ (l : List (Named SessionState)). AreKept c.args.app.now told c.args.moment l c.prepare.new.caches.items) (sym c.prepare.ensures.sessions)
    (subst (λ (l : List (Named CacheState)). AreKept c.args.app.now told c.args.moment c.args.sessions.now.items l) (sym c.prepare.ensures.caches) c.requires.kept)

pub returns-in_err-made-clause-clean : goal.returns-in_err-made-clause-clean
returns-in_err-made-clause-clean g c =
    subst (λ (l : List (Named CacheState)). AreLeftBeside c.args.app.now c.args.name.now any_table c.args.caches.now.items l) (sym c.prepare.ensures.caches) (beside_same c.args.app.now c.args.name.now any_table c.args.caches.now.items)

pub returns-in_err-made-clause-cut : goal.returns-in_err-made-clause-cut
returns-in_err-made-clause-cut g c = err_always _ _ (subst (λ (l : List (Named CacheState)). SessionsLeft c.args.app.now nothing c.args.caches.now.items l) (sym c.prepare.ensures.caches) (left_unchanged c.args.app.now c.args.caches.now.items))

pub returns-in_err-session-clause-fit : goal.returns-in_err-session-clause-fit
returns-in_err-session-clause-fit g c = subst (λ (l : List (Named SessionState)). LiveSessionsFit c.args.app.now.names l) (sym c.prepare.ensures.sessions) c.requires.fit

pub returns-in_err-session-clause-replies : goal.returns-in_err-session-clause-replies
returns-in_err-session-clause-replies g c = subst SessionsKeepReplies (sym c.prepare.ensures.sessions) c.requires.replies
