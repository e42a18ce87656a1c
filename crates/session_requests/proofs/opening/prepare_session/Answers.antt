use Rattle.std.proofs.Common.{List, Option, [], drop, length, subst, sym, ◌∙◌}
use Rattle.fx_base.specs.Silence.{MayFallSilent, SilenceCause}
use Rattle.fx_core.specs.declared.sources.Source.{Source}
use Rattle.row_keeper.specs.Tables.{Tables}
use Rattle.session_state.specs.Changes.{FitsNames}
use Rattle.session_state.specs.Sessions.{SessionState, opened}
use Rattle.session_requests.specs.Caching.{SameSessionExcept, AreSources, IsCached}
use Rattle.session_requests.specs.Running.{Opens, OpensWriting}
use Rattle.session_requests.specs.Scenes.{scene}
use Rattle.session_requests.specs.Transactions.{CanGoBack}
use Rattle.session_requests.proofs.Caches.{no_change}
use Rattle.session_requests.proofs.Chains.{goes_as}
use Rattle.session_requests.proofs.RequestFitting.{fits_unasked, is_unasked}
use Rattle.session_requests.proofs.Resting.{later_first, unasked_but}
use Rattle.session_requests.proofs.Transactions.{can_go_back, goes_on_here}
use Rattle.session_requests.proofs.Undone.{cached_as, cached_pending}
use Rattle.session_requests.proofs.opening.prepare_session.Goals as goal

pub open-requires-clause-under_way : goal.open-requires-clause-under_way
open-requires-clause-under_way g c =
    record {
      fits = subst (FitsNames c.args.app.now.names) (sym c.in_ok-session.ensures.opened) (c.new.ensures.fits c.requires.opens.screen c.requires.opens.tables);
      shaped = c.requires.shaped;
      rows = c.requires.rows;
      begun = c.requires.begun;
      cached = subst (λ (s : SessionState). IsCached c.args.app.now s (g.K.Keeper.told c.args.keeper.now) c.args.moment c.args.cache.now) (sym c.in_ok-session.ensures.opened) c.requires.cached;
      but = subst (SameSessionExcept c.args.app.now.names c.args.wrote.now.items c.in_ok-before.before) (c.in_ok-before.ensures.opened ∙ sym c.in_ok-session.ensures.opened) (no_change c.args.app.now.names c.args.wrote.now.items c.in_ok-before.before);
      later = later_first c.args.wrote.now.items (g.K.Keeper.began c.args.keeper.now) (g.K.Keeper.told c.args.keeper.now) c.requires.began;
      sources = subst (AreSources c.args.app.now.names) (sym c.requires.wrote) (λ x l. absurd l);
    }

pub returns-clause-wrote : goal.returns-clause-wrote
returns-clause-wrote g c =
    let told = g.K.Keeper.told in
    let lost = SilenceCause (g.K.Keeper.marks c.args.keeper.now) (g.K.Keeper.marks c.open.new.keeper) in
    let a = c.args.app.now in
    let ws = c.open.new.wrote.items in
    let end = c.open.new.session in
    let left = is_unasked end c.take_notices.new.self c.keep.new.self c.new-3.result.items c.new-4.result.items c.take_notices.ensures.none c.keep.ensures c.new-3.ensures.items c.new-4.ensures.items in
    let opens : MayFallSilent lost (λ (t u : Tables). OpensWriting a c.args.moment (scene t (opened a.names)) (scene u end) ws) (told c.args.keeper.now) (told c.open.new.keeper) =
    subst (λ (s : SessionState). MayFallSilent lost (λ (t u : Tables). OpensWriting a c.args.moment (scene t s) (scene u end) ws) (told c.args.keeper.now) (told c.open.new.keeper)) c.in_ok-session.ensures.opened
    (subst (λ (l : List Source). MayFallSilent lost (λ (t u : Tables). OpensWriting a c.args.moment (scene t c.in_ok-session.session) (scene u end) (drop (length l) ws)) (told c.args.keeper.now) (told c.open.new.keeper)) c.requires.wrote c.in_ok-open.ensures.wrote) in (
      record {
        end = end;
        opens = goes_as lost (λ (t u : Tables). OpensWriting a c.args.moment (scene t (opened a.names)) (scene u end) ws) (λ (t u : Tables). Opens a c.args.moment (scene t (opened a.names)) (scene u end)) (λ t u h. h.0) (told c.args.keeper.now) (told c.open.new.keeper) opens;
        left = left;
        fits = fits_unasked a.names end c.keep.new.self left c.open.ensures.under_way.fits;
      },
      opens,
    )

pub returns-clause-cached : goal.returns-clause-cached
returns-clause-cached g c =
    let end = c.open.new.session in
    let left = is_unasked end c.take_notices.new.self c.keep.new.self c.new-3.result.items c.new-4.result.items c.take_notices.ensures.none c.keep.ensures c.new-3.ensures.items c.new-4.ensures.items in
    cached_as c.args.app.now end c.keep.new.self (g.K.Keeper.told c.open.new.keeper) c.args.moment c.open.new.cache c.requires.sound (unasked_but c.args.app.now.names [] end c.keep.new.self left) c.open.ensures.under_way.cached

pub returns-clause-undoable : goal.returns-clause-undoable
returns-clause-undoable g c =
    subst (λ (s : SessionState). CanGoBack g.K.Keeper c.args.app.now c.args.moment s c.open.new.cache c.open.new.keeper c.open.new.wrote.items) c.in_ok-before.ensures.opened
    (can_go_back g.K.Keeper c.args.app.now c.args.moment c.in_ok-before.before c.open.new.session c.open.new.cache c.open.new.keeper c.open.new.wrote.items c.requires.sound (λ e. (g.met.K.Keeper.quiet c.open.new.keeper e).0) c.open.ensures.under_way)

pub returns-in_err-open-clause-undoable : goal.returns-in_err-open-clause-undoable
returns-in_err-open-clause-undoable g c =
    subst (λ (s : SessionState). CanGoBack g.K.Keeper c.args.app.now c.args.moment s c.open.new.cache c.open.new.keeper c.open.new.wrote.items) c.in_ok-before.ensures.opened
    (can_go_back g.K.Keeper c.args.app.now c.args.moment c.in_ok-before.before c.open.new.session c.open.new.cache c.open.new.keeper c.open.new.wrote.items c.requires.sound (λ e. (g.met.K.Keeper.quiet c.open.new.keeper e).0) c.open.ensures.under_way)

pub returns-in_err-before-clause-undoable : goal.returns-in_err-before-clause-undoable
returns-in_err-before-clause-undoable g c =
    record {
      shaped = c.requires.shaped;
      rows = c.requires.rows;
      begun = c.requires.begun;
      pending = cached_pending c.args.app.now c.args.wrote.now.items (opened c.args.app.now.names) (opened c.args.app.now.names) (g.K.Keeper.began c.args.keeper.now) c.args.moment c.args.cache.now c.requires.sound
          (no_change c.args.app.now.names c.args.wrote.now.items (opened c.args.app.now.names)) (subst (λ (z : Option Tables). IsCached c.args.app.now (opened c.args.app.now.names) z c.args.moment c.args.cache.now) (sym c.requires.began) c.requires.cached);
      later = later_first c.args.wrote.now.items (g.K.Keeper.began c.args.keeper.now) (g.K.Keeper.told c.args.keeper.now) c.requires.began;
      sources = subst (AreSources c.args.app.now.names) (sym c.requires.wrote) (λ x l. absurd l);
    }

pub returns-in_err-session-clause-undoable : goal.returns-in_err-session-clause-undoable
returns-in_err-session-clause-undoable g c =
    record {
      shaped = c.requires.shaped;
      rows = c.requires.rows;
      begun = c.requires.begun;
      pending = cached_pending c.args.app.now c.args.wrote.now.items (opened c.args.app.now.names) (opened c.args.app.now.names) (g.K.Keeper.began c.args.keeper.now) c.args.moment c.args.cache.now c.requires.sound
          (no_change c.args.app.now.names c.args.wrote.now.items (opened c.args.app.now.names)) (subst (λ (z : Option Tables). IsCached c.args.app.now (opened c.args.app.now.names) z c.args.moment c.args.cache.now) (sym c.requires.began) c.requires.cached);
      later = later_first c.args.wrote.now.items (g.K.Keeper.began c.args.keeper.now) (g.K.Keeper.told c.args.keeper.now) c.requires.began;
      sources = subst (AreSources c.args.app.now.names) (sym c.requires.wrote) (λ x l. absurd l);
    }

pub returns-in_err-before-clause-goes_on : goal.returns-in_err-before-clause-goes_on
returns-in_err-before-clause-goes_on g c =
    goes_on_here g.K.Keeper c.args.app.now c.args.cache.now c.args.keeper.now c.args.wrote.now.items

pub returns-in_err-session-clause-goes_on : goal.returns-in_err-session-clause-goes_on
returns-in_err-session-clause-goes_on g c =
    goes_on_here g.K.Keeper c.args.app.now c.args.cache.now c.args.keeper.now c.args.wrote.now.items
