use Rattle.std.proofs.Common.{[], drop, length, option_map, subst}
use Rattle.fx_base.specs.Silence.{MayFallSilent, SilenceCause}
use Rattle.fx_types.specs.ValueView.{view}
use Rattle.row_keeper.specs.Tables.{Tables}
use Rattle.session_state.specs.Sessions.{SessionState}
use Rattle.session_requests.specs.Running.{Runs, RunsWriting}
use Rattle.session_requests.specs.Scenes.{begun, scene}
use Rattle.session_requests.specs.WrittenWhole.{IsInAll, RequestWrites}
use Rattle.session_requests.specs.Writable.{AllSources}
use Rattle.session_requests.proofs.Chains.{goes_as}
use Rattle.session_requests.proofs.Cuts.{cut_whole, on_any}
use Rattle.session_requests.proofs.RequestFitting.{fits_quiet, is_begun}
use Rattle.session_requests.proofs.Resting.{quiet_but}
use Rattle.session_requests.proofs.Transactions.{begun_under_way, can_go_back}
use Rattle.session_requests.proofs.Undone.{cached_as}
use Rattle.session_requests.proofs.transaction.prepare.Goals as goal

pub run-requires-clause-under_way : goal.run-requires-clause-under_way
run-requires-clause-under_way g c =
    begun_under_way g.K.Keeper c.args.app.now c.args.moment c.args.before.now c.args.session c.take_notices.new.self c.take_navigated.new.self c.args.cache.now c.args.keeper.now c.args.wrote.now.items c.requires.sound
    c.take_notices.ensures.none c.take_navigated.ensures.taken c.requires.under_way

pub returns-clause-accepted : goal.returns-clause-accepted
returns-clause-accepted g c =
    let told = g.K.Keeper.told in
    let marks = g.K.Keeper.marks in
    let a = c.args.app.now in
    let item = option_map view c.args.item in
    let end = c.run.new.session in
    let value = view c.in_ok-value.value in
    let left = c.in_ok-accept_reply.field-0.session in
    let ws = drop (length c.args.wrote.now.items) c.run.new.wrote.items in
    let runs : MayFallSilent (SilenceCause (marks c.args.keeper.now) (marks c.run.new.keeper)) (λ (t u : Tables). RunsWriting a c.args.moment c.args.trigger item (scene t (begun c.args.session)) value (scene u end) ws) (told c.args.keeper.now) (told c.run.new.keeper) =
    subst (λ (s : SessionState). MayFallSilent (SilenceCause (marks c.args.keeper.now) (marks c.run.new.keeper)) (λ (t u : Tables). RunsWriting a c.args.moment c.args.trigger item (scene t s) value (scene u end) ws) (told c.args.keeper.now) (told c.run.new.keeper))
    (is_begun c.args.session c.take_notices.new.self c.take_navigated.new.self c.take_notices.ensures.none c.take_navigated.ensures.taken) c.in_ok-value.ensures.wrote in
    record {
      accepts = record {
        value = value;
        end = end;
        runs = goes_as _ (λ (t u : Tables). RunsWriting a c.args.moment c.args.trigger item (scene t (begun c.args.session)) value (scene u end) ws) (λ (t u : Tables). Runs a c.args.moment c.args.trigger item (scene t (begun c.args.session)) value (scene u end))
            (λ t u h. h.0) (told c.args.keeper.now) (told c.run.new.keeper) runs;
        said_is = c.in_ok-accept_reply.ensures.said;
        left = c.in_ok-accept_reply.ensures.left;
        fits = fits_quiet a.names end left c.in_ok-accept_reply.ensures.left c.run.ensures.under_way.fits;
      };
      wrote = (value, end, runs);
      kept = c.in_ok-accept_reply.ensures.kept;
      whole = c.in_ok-accept_reply.ensures.whole;
      cached = cached_as a end left (told c.run.new.keeper) c.args.moment c.run.new.cache c.requires.sound (quiet_but a.names [] end left c.in_ok-accept_reply.ensures.left) c.run.ensures.under_way.cached;
    }

pub returns-clause-undoable : goal.returns-clause-undoable
returns-clause-undoable g c =
    can_go_back g.K.Keeper c.args.app.now c.args.moment c.args.before.now c.run.new.session c.run.new.cache c.run.new.keeper c.run.new.wrote.items c.requires.sound (λ e. (g.met.K.Keeper.quiet c.run.new.keeper e).0) c.run.ensures.under_way

pub returns-in_err-value-clause-undoable : goal.returns-in_err-value-clause-undoable
returns-in_err-value-clause-undoable g c =
    can_go_back g.K.Keeper c.args.app.now c.args.moment c.args.before.now c.run.new.session c.run.new.cache c.run.new.keeper c.run.new.wrote.items c.requires.sound (λ e. (g.met.K.Keeper.quiet c.run.new.keeper e).0) c.run.ensures.under_way

pub returns-in_err-accept_reply-clause-undoable : goal.returns-in_err-accept_reply-clause-undoable
returns-in_err-accept_reply-clause-undoable g c =
    can_go_back g.K.Keeper c.args.app.now c.args.moment c.args.before.now c.run.new.session c.run.new.cache c.run.new.keeper c.run.new.wrote.items c.requires.sound (λ e. (g.met.K.Keeper.quiet c.run.new.keeper e).0) c.run.ensures.under_way

pub returns-in_err-value-clause-cut : goal.returns-in_err-value-clause-cut
returns-in_err-value-clause-cut g c =
    let told = g.K.Keeper.told in
    let marks = g.K.Keeper.marks in
    on_any _ (subst (λ (s : SessionState). MayFallSilent (SilenceCause (marks c.args.keeper.now) (marks c.run.new.keeper))
    (λ (t u : Tables). AllSources (IsInAll (RequestWrites c.args.app.now c.args.moment c.args.trigger (option_map view c.args.item) (scene t s))) (drop (length c.args.wrote.now.items) c.run.new.wrote.items)) (told c.args.keeper.now) (told c.run.new.keeper))
    (is_begun c.args.session c.take_notices.new.self c.take_navigated.new.self c.take_notices.ensures.none c.take_navigated.ensures.taken) c.in_err-value.ensures.cut)

pub returns-in_err-accept_reply-clause-cut : goal.returns-in_err-accept_reply-clause-cut
returns-in_err-accept_reply-clause-cut g c =
    let told = g.K.Keeper.told in
    let marks = g.K.Keeper.marks in
    on_any _ (subst (λ (s : SessionState). MayFallSilent (SilenceCause (marks c.args.keeper.now) (marks c.run.new.keeper))
    (λ (t u : Tables). AllSources (IsInAll (RequestWrites c.args.app.now c.args.moment c.args.trigger (option_map view c.args.item) (scene t s))) (drop (length c.args.wrote.now.items) c.run.new.wrote.items)) (told c.args.keeper.now) (told c.run.new.keeper))
    (is_begun c.args.session c.take_notices.new.self c.take_navigated.new.self c.take_notices.ensures.none c.take_navigated.ensures.taken)
    (cut_whole c.one_acting.ensures (SilenceCause (marks c.args.keeper.now) (marks c.run.new.keeper)) c.args.app.now c.args.moment c.args.trigger (option_map view c.args.item) c.take_navigated.new.self c.run.new.session (view c.in_ok-value.value)
    (drop (length c.args.wrote.now.items) c.run.new.wrote.items) (told c.args.keeper.now) (told c.run.new.keeper) c.in_ok-value.ensures.wrote))
