use Rattle.std.proofs.Common.{◌≡◌, ◌<◌, ◌∙◌, List, length, Some, arith, subst, sym}
use Rattle.std.specs.List.{position}
use Rattle.fx_base.specs.Silence.{MayFallSilent, SilenceCause}
use Rattle.fx_core.specs.declared.sources.Source.{Source}
use Rattle.numbered_requests.specs.Directory.{is_named}
use Rattle.numbered_requests.specs.Replies.{said}
use Rattle.numbered_requests.specs.declared.directory.Named.{Named}
use Rattle.row_requests.specs.Written.{SameTablesExcept}
use Rattle.session_state.specs.Sessions.{SessionState}
use Rattle.std.specs.Prelude.{slice_set}
use Rattle.office.specs.Leaving.{AreStopped, InputCutOff, any_table, nothing}
use Rattle.session_requests.specs.WrittenWhole.{InputWritesWhole, IsInAll}
use Rattle.session_requests.specs.Writable.{AllSources, InputMayWrite}
use Rattle.recalc.specs.Changes.{StaysCleanExcept}
use Rattle.session_requests.specs.Posting.{SendsInputWriting}
use Rattle.office.proofs.Leaving.{acted_told, at_stopped, at_told, beside_any, beside_stopped, beside_told, err_always, still_all, still_told}
use Rattle.office.proofs.Caching.{one_place}
use Rattle.office.proofs.Sent.{cached_there, kept_sent, kept_stopped, order_after, place_within, sends_input}
use Rattle.office.proofs.sending.act_input.Goals as goal

pub index_mut-requires : goal.index_mut-requires
index_mut-requires g c =
    let within : c.in-Some.place < length c.args.sessions.now.items = subst (λ (l : List (Named SessionState)). c.in-Some.place < length l) c.deref.ensures.value c.in-Some.ensures.within in
    let there = place_within c.args.app.now (g.K.Keeper.told c.args.keeper.now) c.args.moment c.args.sessions.now.items c.args.caches.now.items c.in-Some.place c.requires.kept within in
    omega (arith, there, c.args.caches.now.ok.0)

pub send_input-requires-clause-cached : goal.send_input-requires-clause-cached
send_input-requires-clause-cached g c =
    let name = c.args.name.now in
    let place = subst (λ (l : List (Named SessionState)). Some c.in-Some.place ≡ position (is_named name) l) c.deref.ensures.value c.in-Some.ensures.place in
    cached_there c.args.app.now (g.K.Keeper.told c.args.keeper.now) c.args.moment name c.args.sessions.now.items c.args.caches.now.items c.in-Some.place c.index_mut.result.now c.requires.kept (sym place) c.index_mut.ensures.value

pub returns-in_err-reply-in-Some-clause-kept : goal.returns-in_err-reply-in-Some-clause-kept
returns-in_err-reply-in-Some-clause-kept g c =
    let name = c.args.name.now in
    let told = g.K.Keeper.told in
    let lost = SilenceCause (g.K.Keeper.marks c.args.keeper.now) (g.K.Keeper.marks c.send_input.new.keeper) in
    let place = subst (λ (l : List (Named SessionState)). Some c.in-Some.place ≡ position (is_named name) l) c.deref.ensures.value c.in-Some.ensures.place in
    kept_stopped c.args.app.now c.args.moment lost (told c.args.keeper.now) (told c.send_input.new.keeper) name c.args.sessions.now.items c.send_input.new.sessions.items c.args.caches.now.items c.in-Some.place c.index_mut.result.now c.send_input.new.cache
    c.requires.kept (sym place) c.index_mut.ensures.value c.in_err-reply-in-Some.ensures.left c.in_err-reply-in-Some.ensures.stopped c.send_input.ensures.cached

pub touch_others-requires-clause-order : goal.touch_others-requires-clause-order
touch_others-requires-clause-order g c =
    let name = c.args.name.now in
    let told = g.K.Keeper.told in
    let lost = SilenceCause (g.K.Keeper.marks c.args.keeper.now) (g.K.Keeper.marks c.send_input.new.keeper) in
    let ss = c.args.sessions.now.items in
    let rs = c.send_input.new.sessions.items in
    let place = subst (λ (l : List (Named SessionState)). Some c.in-Some.place ≡ position (is_named name) l) c.deref.ensures.value c.in-Some.ensures.place in
    let changes = sends_input lost c.args.app.now c.args.moment name c.args.body.now c.args.input (told c.args.keeper.now) ss (said c.in_ok-reply-in-Some.reply) (told c.send_input.new.keeper) rs c.in_ok-reply-in-Some.ensures.done in
    order_after c.args.app.now (told c.args.keeper.now) (told c.send_input.new.keeper) c.args.moment name ss rs c.args.caches.now.items c.in-Some.place c.index_mut.result.now c.send_input.new.cache c.requires.kept (sym place) changes c.send_input.ensures.cached

pub returns-clause-kept : goal.returns-clause-kept
returns-clause-kept g c =
    let name = c.args.name.now in
    let told = g.K.Keeper.told in
    let lost = SilenceCause (g.K.Keeper.marks c.args.keeper.now) (g.K.Keeper.marks c.send_input.new.keeper) in
    let app = c.args.app.now in
    let m = c.args.moment in
    let ss = c.args.sessions.now.items in
    let rs = c.send_input.new.sessions.items in
    let cs = c.args.caches.now.items in
    let place = subst (λ (l : List (Named SessionState)). Some c.in-Some.place ≡ position (is_named name) l) c.deref.ensures.value c.in-Some.ensures.place in
    let changes = sends_input lost app m name c.args.body.now c.args.input (told c.args.keeper.now) ss (said c.in_ok-reply-in-Some.reply) (told c.send_input.new.keeper) rs c.in_ok-reply-in-Some.ensures.done in
    kept_sent app m lost c.deref-in-Some.result.now (told c.args.keeper.now) (told c.send_input.new.keeper) name ss rs cs c.touch_others.new.caches.items c.in-Some.place c.index_mut.result.now c.send_input.new.cache
    c.requires.sound (subst (λ (ws : List Source). MayFallSilent lost (SameTablesExcept ws) (told c.args.keeper.now) (told c.send_input.new.keeper)) (sym c.deref-in-Some.ensures.value) c.send_input.ensures.tables) c.requires.kept (sym place) c.index_mut.ensures.value
    changes c.send_input.ensures.cached c.touch_others.ensures.told

pub returns-in_err-reply-in-Some-clause-clean : goal.returns-in_err-reply-in-Some-clause-clean
returns-in_err-reply-in-Some-clause-clean g c =
    let name = c.args.name.now in
    let told = g.K.Keeper.told c.args.keeper.now in
    let ss = c.args.sessions.now.items in
    let cs = c.args.caches.now.items in
    let place = subst (λ (l : List (Named SessionState)). Some c.in-Some.place ≡ position (is_named name) l) c.deref.ensures.value c.in-Some.ensures.place in
    let within : c.in-Some.place < length ss = subst (λ (l : List (Named SessionState)). c.in-Some.place < length l) c.deref.ensures.value c.in-Some.ensures.within in
    let here = place_within c.args.app.now told c.args.moment ss cs c.in-Some.place c.requires.kept within in
    let beside = one_place c.args.app.now told c.args.moment name ss cs c.requires.kept ∙ sym place in
    beside_stopped c.args.app.now name any_table cs c.in-Some.place c.index_mut.result.now c.send_input.new.cache here c.index_mut.ensures.value beside

pub returns-clause-clean : goal.returns-clause-clean
returns-clause-clean g c =
    let name = c.args.name.now in
    let told = g.K.Keeper.told c.args.keeper.now in
    let ss = c.args.sessions.now.items in
    let cs = c.args.caches.now.items in
    let place = subst (λ (l : List (Named SessionState)). Some c.in-Some.place ≡ position (is_named name) l) c.deref.ensures.value c.in-Some.ensures.place in
    let within : c.in-Some.place < length ss = subst (λ (l : List (Named SessionState)). c.in-Some.place < length l) c.deref.ensures.value c.in-Some.ensures.within in
    let here = place_within c.args.app.now told c.args.moment ss cs c.in-Some.place c.requires.kept within in
    let beside = one_place c.args.app.now told c.args.moment name ss cs c.requires.kept ∙ sym place in
    beside_any c.args.app.now name c.deref-in-Some.result.now cs c.touch_others.new.caches.items
    (beside_told c.args.app.now name c.deref-in-Some.result.now cs c.touch_others.new.caches.items c.in-Some.place c.index_mut.result.now c.send_input.new.cache here c.index_mut.ensures.value beside c.touch_others.ensures.told)

pub returns-clause-own : goal.returns-clause-own
returns-clause-own g c =
    let name = c.args.name.now in
    let told = g.K.Keeper.told c.args.keeper.now in
    let ss = c.args.sessions.now.items in
    let cs = c.args.caches.now.items in
    let place = subst (λ (l : List (Named SessionState)). Some c.in-Some.place ≡ position (is_named name) l) c.deref.ensures.value c.in-Some.ensures.place in
    let within : c.in-Some.place < length ss = subst (λ (l : List (Named SessionState)). c.in-Some.place < length l) c.deref.ensures.value c.in-Some.ensures.within in
    let here = place_within c.args.app.now told c.args.moment ss cs c.in-Some.place c.requires.kept within in
    let beside = one_place c.args.app.now told c.args.moment name ss cs c.requires.kept ∙ sym place in
    let ws = c.deref-in-Some.result.now in
    let ds = c.touch_others.new.caches.items in
    let lost = SilenceCause (g.K.Keeper.marks c.args.keeper.now) (g.K.Keeper.marks c.send_input.new.keeper) in (
      ws,
      subst (λ (l : List Source). SendsInputWriting lost c.args.app.now c.args.moment name c.args.body.now c.args.input told ss (said c.in_ok-reply-in-Some.reply) (g.K.Keeper.told c.send_input.new.keeper) c.send_input.new.sessions.items l) (sym c.deref-in-Some.ensures.value) c.in_ok-reply-in-Some.ensures.wrote,
      acted_told c.args.app.now name ws cs ds
          (at_told c.args.app.now name ws cs ds c.in-Some.place c.index_mut.result.now c.send_input.new.cache here c.index_mut.ensures.value beside c.touch_others.ensures.told
          (subst (λ (l : List Source). StaysCleanExcept c.args.app.now l c.index_mut.result.now.it c.send_input.new.cache) (sym c.deref-in-Some.ensures.value) c.send_input.ensures.clean))
          (beside_told c.args.app.now name ws cs ds c.in-Some.place c.index_mut.result.now c.send_input.new.cache here c.index_mut.ensures.value beside c.touch_others.ensures.told),
    )

pub returns-in_err-reply-in-Some-clause-cut : goal.returns-in_err-reply-in-Some-clause-cut
returns-in_err-reply-in-Some-clause-cut g c =
    let name = c.args.name.now in
    let app = c.args.app.now in
    let told = g.K.Keeper.told in
    let ss = c.args.sessions.now.items in
    let cs = c.args.caches.now.items in
    let place = subst (λ (l : List (Named SessionState)). Some c.in-Some.place ≡ position (is_named name) l) c.deref.ensures.value c.in-Some.ensures.place in
    let within : c.in-Some.place < length ss = subst (λ (l : List (Named SessionState)). c.in-Some.place < length l) c.deref.ensures.value c.in-Some.ensures.within in
    let here = place_within app (told c.args.keeper.now) c.args.moment ss cs c.in-Some.place c.requires.kept within in
    let beside = one_place app (told c.args.keeper.now) c.args.moment name ss cs c.requires.kept ∙ sym place in
    let ws = c.send_input.new.wrote.items in
    let lost = SilenceCause (g.K.Keeper.marks c.args.keeper.now) (g.K.Keeper.marks c.send_input.new.keeper) in
    let was = told c.args.keeper.now in
    let now = told c.send_input.new.keeper in
    let wrote = InputCutOff app c.args.moment name c.args.input was ss in
    err_always _ (AreStopped app name nothing wrote now cs (slice_set cs c.in-Some.place (record { name = c.index_mut.result.now.name; it = c.send_input.new.cache }))) (
      (λ still.
          at_stopped app name wrote ws cs c.in-Some.place c.index_mut.result.now c.send_input.new.cache here c.index_mut.ensures.value beside
          (λ x among. (
            still_told lost (AllSources (InputMayWrite app c.args.input) ws) was now still c.send_input.ensures.only x among,
            still_all lost (λ t. IsInAll (InputWritesWhole app c.args.moment name c.args.input t ss)) ws was now still c.in_err-reply-in-Some.ensures.cut x among,
          )) c.send_input.ensures.clean),
      beside_stopped app name nothing cs c.in-Some.place c.index_mut.result.now c.send_input.new.cache here c.index_mut.ensures.value beside,
    )
