use Rattle.std.proofs.Common.{◌≡◌, ◌<◌, ◌∙◌, List, Some, ap, length, subst, sym}
use Rattle.std.specs.List.{position}
use Rattle.numbered_requests.specs.Directory.{is_named}
use Rattle.numbered_requests.specs.declared.directory.Named.{Named}
use Rattle.session_state.specs.Sessions.{SessionState}
use Rattle.session_requests.specs.Acting.{IsAt}
use Rattle.session_requests.proofs.Endings.{find_at}
use Rattle.fx_base.specs.Silence.{SilenceCause}
use Rattle.session_requests.proofs.Writable.{only_none}
use Rattle.session_requests.specs.Writable.{InputMayWrite}
use Rattle.session_requests.proofs.WholeSent.{cut_none, on_err}
use Rattle.session_requests.specs.WrittenWhole.{InputWritesWhole}
use Rattle.session_requests.proofs.posting.send_input.Goals as goal

pub act_input-requires-clause-found : goal.act_input-requires-clause-found
act_input-requires-clause-found g c =
    let name = c.args.name.now in
    let place = c.in-Some.place in
    let there : IsAt place name c.args.sessions.now.items = record {
      first = subst (λ (l : List (Named SessionState)). position (is_named name) l ≡ Some place) c.deref.ensures.value (sym c.in-Some.ensures.place);
      within = subst (λ (l : List (Named SessionState)). place < length l) c.deref.ensures.value c.in-Some.ensures.within;
    } in
    find_at place name c.args.sessions.now.items c.index.result.now there c.index.ensures ∙ ap (λ (s : SessionState). Some s) (sym c.in_ok-session-in-Some.ensures)

pub act_input-requires-clause-cached : goal.act_input-requires-clause-cached
act_input-requires-clause-cached g c =
    let name = c.args.name.now in
    let place = c.in-Some.place in
    let there : IsAt place name c.args.sessions.now.items = record {
      first = subst (λ (l : List (Named SessionState)). position (is_named name) l ≡ Some place) c.deref.ensures.value (sym c.in-Some.ensures.place);
      within = subst (λ (l : List (Named SessionState)). place < length l) c.deref.ensures.value c.in-Some.ensures.within;
    } in
    c.requires.cached c.in_ok-session-in-Some.session
    (find_at place name c.args.sessions.now.items c.index.result.now there c.index.ensures ∙ ap (λ (s : SessionState). Some s) (sym c.in_ok-session-in-Some.ensures))

pub returns-in_err-session-in-Some-clause-only : goal.returns-in_err-session-in-Some-clause-only
returns-in_err-session-in-Some-clause-only g c =
    only_none (SilenceCause (g.K.Keeper.marks c.args.keeper.now) (g.K.Keeper.marks c.args.keeper.now)) (InputMayWrite c.args.app.now c.args.input) c.args.wrote.now.items (g.K.Keeper.told c.args.keeper.now) c.requires.wrote

pub returns-in_err-session-in-Some-clause-cut : goal.returns-in_err-session-in-Some-clause-cut
returns-in_err-session-in-Some-clause-cut g c =
    on_err _
    (cut_none (SilenceCause (g.K.Keeper.marks c.args.keeper.now) (g.K.Keeper.marks c.args.keeper.now)) (λ t. InputWritesWhole c.args.app.now c.args.moment c.args.name.now c.args.input t c.args.sessions.now.items) c.args.wrote.now.items (g.K.Keeper.told c.args.keeper.now) c.requires.wrote)
