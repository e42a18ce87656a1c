use Rattle.std.proofs.Common.{List, Some, ap, drop, length, subst, sym, ◌++◌, ◌≡◌, ◌∙◌}
use Rattle.std.specs.Option.{option_to_list}
use Rattle.fx_core.specs.declared.sources.Source.{Source}
use Rattle.numbered_requests.specs.Directory.{find}
use Rattle.recalc.proofs.Leaving.{left_same}
use Rattle.recalc.specs.Changes.{StaysCleanExcept}
use Rattle.recalc.specs.Kept.{CacheState}
use Rattle.session_requests.proofs.Written.{front_then}
use Rattle.session_requests.proofs.Caches.{given_left}
use Rattle.session_requests.specs.Caching.{SameSessionExcept, AreSources, IsCached}
use Rattle.session_requests.proofs.Giving.{given_told}
use Rattle.session_requests.proofs.Resting.{before_is, cached_found, cached_kept}
use Rattle.numbered_requests.specs.Checked.{SessionsKeepReplies}
use Rattle.numbered_requests.specs.declared.directory.Named.{Named}
use Rattle.session_state.specs.Sessions.{SessionState}
use Rattle.view_text.specs.ViewText.{event_text}
use Rattle.session_requests.specs.Acting.{session_answered}
use Rattle.session_requests.specs.Posting.{SessionsFit}
use Rattle.session_requests.proofs.Fitting.{fits_answered, put_fits, put_keeps}
use Rattle.fx_base.specs.Silence.{SilenceCause}
use Rattle.session_requests.proofs.Writable.{only_effect, only_none}
use Rattle.session_requests.specs.Writable.{EffectMayWrite}
use Rattle.std.proofs.Common.{option_map}
use Rattle.fx_types.specs.ValueView.{view}
use Rattle.row_keeper.specs.Tables.{Tables}
use Rattle.session_requests.proofs.Cuts.{cut_effect, cut_none, on_any}
use Rattle.session_requests.specs.WrittenWhole.{GivenAndWrites, IsInAll}
use Rattle.session_requests.proofs.effects.take_effect.Goals as goal

pub accept_request-requires-clause-ready : goal.accept_request-requires-clause-ready
accept_request-requires-clause-ready g c =
    let names = c.args.app.now.names in
    let is : c.make_room.new.wrote.items ≡ option_to_list c.args.given = c.in_ok-entry.ensures.wrote ∙ ap (λ (l : List Source). l ++ option_to_list c.args.given) c.requires.wrote in
    record {
      fits = c.requires.fits;
      shaped = c.requires.shaped;
      rows = c.requires.rows;
      idle = c.requires.idle;
      cached = given_told c.args.app.now c.args.given c.requires.before.before c.args.session (g.K.Keeper.told c.args.keeper.now) c.args.moment c.args.cache.now c.make_room.new.cache c.requires.sound c.requires.given c.requires.before.but (c.in_ok-entry.ensures.told c.args.app.now) c.requires.before.cached;
      but = subst (λ (ws : List Source). SameSessionExcept names ws c.session_of-before.result.now c.args.session) (sym is)
          (subst (λ (s : SessionState). SameSessionExcept names (option_to_list c.args.given) s c.args.session) (before_is c.args.name.now c.args.sessions.now.items c.make_room.new.sessions.items c.as_slice.result.now c.requires.before.before c.session_of-before.result.now c.requires.before.found c.as_slice.ensures.value c.make_room.ensures.sessions c.session_of-before.ensures) c.requires.before.but);
      sources = subst (AreSources names) (sym is) c.requires.given;
    }

pub returns-in-Ok-clause-fit : goal.returns-in-Ok-clause-fit
returns-in-Ok-clause-fit g c =
    let names = c.args.app.now.names in
    let accepted = c.in-Ok.accepted in
    let end : SessionState = session_answered c.args.seq c.in_ok-entry.entry.body.items accepted.kept.items accepted.session in
    subst (λ (l : List (Named SessionState)). SessionsFit names l) (sym c.keep.ensures.kept)
    (put_fits names c.in_ok-entry.entry.name end c.make_room.new.sessions.items (subst (λ (l : List (Named SessionState)). SessionsFit names l) (sym c.make_room.ensures.sessions) c.requires.fit)
    (fits_answered names accepted.session c.args.seq c.in_ok-entry.entry.body.items accepted.kept.items c.in-Ok.ensures.accepted.accepts.fits))

pub returns-in-Ok-clause-kept : goal.returns-in-Ok-clause-kept
returns-in-Ok-clause-kept g c =
    let accepted = c.in-Ok.accepted in
    let end : SessionState = session_answered c.args.seq c.in_ok-entry.entry.body.items accepted.kept.items accepted.session in
    let h = c.in-Ok.ensures.accepted.accepts in
    subst SessionsKeepReplies (sym c.keep.ensures.kept)
    (put_keeps c.in_ok-entry.entry.name end c.make_room.new.sessions.items (subst SessionsKeepReplies (sym c.make_room.ensures.sessions) c.requires.kept)
    (λ counted. (event_text h.end.notices c.args.seq h.value, c.in-Ok.ensures.accepted.kept ∙ h.said_is)))

pub returns-in-Ok-clause-cached : goal.returns-in-Ok-clause-cached
returns-in-Ok-clause-cached g c = λ s found.
    let accepted = c.in-Ok.accepted in
    cached_kept c.args.app.now c.in_ok-entry.entry.name c.args.seq c.in_ok-entry.entry.body.items accepted.kept.items accepted.session (g.K.Keeper.told c.accept_request.new.keeper) c.args.moment c.accept_request.new.cache c.make_room.new.sessions.items c.keep.new.sessions.items
    c.requires.sound c.keep.ensures.kept c.in-Ok.ensures.accepted.cached s (subst (λ n. find n c.keep.new.sessions.items ≡ Some s) (sym c.in_ok-entry.ensures.name) found)

pub returns-in-Err-clause-cached : goal.returns-in-Err-clause-cached
returns-in-Err-clause-cached g c = λ s found.
    cached_found c.args.app.now c.args.name.now c.requires.before.before (g.K.Keeper.told c.accept_request.new.keeper) c.args.moment c.accept_request.new.cache c.args.sessions.now.items c.make_room.new.sessions.items c.make_room.ensures.sessions c.requires.before.found
    (subst (λ (x : SessionState). IsCached c.args.app.now x (g.K.Keeper.told c.accept_request.new.keeper) c.args.moment c.accept_request.new.cache) (sym (before_is c.args.name.now c.args.sessions.now.items c.make_room.new.sessions.items c.as_slice.result.now c.requires.before.before c.session_of-before.result.now c.requires.before.found c.as_slice.ensures.value c.make_room.ensures.sessions c.session_of-before.ensures)) c.in-Err.ensures.undone) s found

pub returns-in_err-entry-clause-clean : goal.returns-in_err-entry-clause-clean
returns-in_err-entry-clause-clean g c =
    subst (λ (z : CacheState). StaysCleanExcept c.args.app.now c.make_room.new.wrote.items c.args.cache.now z) (sym c.in_err-entry.ensures.stopped.1) (left_same c.args.app.now c.make_room.new.wrote.items c.args.cache.now)

pub returns-in-Ok-clause-clean : goal.returns-in-Ok-clause-clean
returns-in-Ok-clause-clean g c =
    c.accept_request.ensures.ended.clean c.args.cache.now
    (subst (λ (ws : List Source). StaysCleanExcept c.args.app.now ws c.args.cache.now c.make_room.new.cache) (sym c.in_ok-entry.ensures.wrote)
    (given_left c.args.app.now c.args.wrote.now.items c.args.given c.args.cache.now c.make_room.new.cache c.requires.given (c.in_ok-entry.ensures.told c.args.app.now)))

pub returns-in-Err-clause-clean : goal.returns-in-Err-clause-clean
returns-in-Err-clause-clean g c =
    c.accept_request.ensures.ended.clean c.args.cache.now
    (subst (λ (ws : List Source). StaysCleanExcept c.args.app.now ws c.args.cache.now c.make_room.new.cache) (sym c.in_ok-entry.ensures.wrote)
    (given_left c.args.app.now c.args.wrote.now.items c.args.given c.args.cache.now c.make_room.new.cache c.requires.given (c.in_ok-entry.ensures.told c.args.app.now)))

pub returns-in-Ok-clause-wrote : goal.returns-in-Ok-clause-wrote
returns-in-Ok-clause-wrote g c =
    let us = c.make_room.new.wrote.items in
    let ws = c.accept_request.new.wrote.items in (
      drop (length us) ws,
      front_then us ws c.accept_request.ensures.ended.prefix
          ∙ ap (λ (l : List Source). l ++ drop (length us) ws) (c.in_ok-entry.ensures.wrote ∙ ap (λ (l : List Source). l ++ option_to_list c.args.given) c.requires.wrote),
      c.in-Ok.ensures.accepted.wrote,
    )

pub returns-in-Ok-clause-only : goal.returns-in-Ok-clause-only
returns-in-Ok-clause-only g c =
    only_effect (SilenceCause (g.K.Keeper.marks c.args.keeper.now) (g.K.Keeper.marks c.accept_request.new.keeper)) c.args.app.now c.args.given c.args.trigger c.args.wrote.now.items c.make_room.new.wrote.items c.accept_request.new.wrote.items
    (g.K.Keeper.told c.args.keeper.now) (g.K.Keeper.told c.accept_request.new.keeper) c.requires.wrote c.in_ok-entry.ensures.wrote c.accept_request.ensures.ended.prefix c.accept_request.ensures.only

pub returns-in-Err-clause-only : goal.returns-in-Err-clause-only
returns-in-Err-clause-only g c =
    only_effect (SilenceCause (g.K.Keeper.marks c.args.keeper.now) (g.K.Keeper.marks c.accept_request.new.keeper)) c.args.app.now c.args.given c.args.trigger c.args.wrote.now.items c.make_room.new.wrote.items c.accept_request.new.wrote.items
    (g.K.Keeper.told c.args.keeper.now) (g.K.Keeper.told c.accept_request.new.keeper) c.requires.wrote c.in_ok-entry.ensures.wrote c.accept_request.ensures.ended.prefix c.accept_request.ensures.only

pub returns-in_err-entry-clause-only : goal.returns-in_err-entry-clause-only
returns-in_err-entry-clause-only g c =
    only_none (SilenceCause (g.K.Keeper.marks c.args.keeper.now) (g.K.Keeper.marks c.args.keeper.now)) (EffectMayWrite c.args.app.now (option_to_list c.args.given) c.args.trigger) c.make_room.new.wrote.items (g.K.Keeper.told c.args.keeper.now) (c.in_err-entry.ensures.stopped.0 ∙ c.requires.wrote)

pub returns-in-Err-clause-cut : goal.returns-in-Err-clause-cut
returns-in-Err-clause-cut g c =
    cut_effect (SilenceCause (g.K.Keeper.marks c.args.keeper.now) (g.K.Keeper.marks c.accept_request.new.keeper)) c.args.app.now c.args.moment c.args.trigger (option_map view c.args.item) c.args.given c.args.session c.args.wrote.now.items c.make_room.new.wrote.items c.accept_request.new.wrote.items
    (g.K.Keeper.told c.args.keeper.now) (g.K.Keeper.told c.accept_request.new.keeper) c.requires.wrote c.in_ok-entry.ensures.wrote c.accept_request.ensures.ended.prefix c.in-Err.ensures.cut

pub returns-in_err-entry-clause-cut : goal.returns-in_err-entry-clause-cut
returns-in_err-entry-clause-cut g c =
    on_any _ (cut_none (SilenceCause (g.K.Keeper.marks c.args.keeper.now) (g.K.Keeper.marks c.args.keeper.now)) (λ (t : Tables). IsInAll (GivenAndWrites c.args.app.now c.args.moment c.args.trigger (option_map view c.args.item) (option_to_list c.args.given) c.args.session t)) c.make_room.new.wrote.items
    (g.K.Keeper.told c.args.keeper.now) (c.in_err-entry.ensures.stopped.0 ∙ c.requires.wrote))
