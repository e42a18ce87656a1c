use Rattle.std.proofs.Common.{Option, ap, refl, subst, ◌∙◌}
use Rattle.fx_base.specs.Silence.{MayFallSilent, SilenceCause}
use Rattle.fx_base.specs.Telling.{Stays}
use Rattle.row_keeper.specs.Shaped.{gone_back, steady}
use Rattle.row_keeper.specs.Tables.{Tables}
use Rattle.session_state.specs.Sessions.{opened}
use Rattle.session_requests.specs.Running.{Opens, OpensWriting}
use Rattle.session_requests.specs.Scenes.{scene}
use Rattle.session_requests.proofs.Written.{told_through}
use Rattle.session_requests.proofs.Undone.{cached_stays, tables_through}
use Rattle.session_requests.proofs.opening.open_session.Goals as goal

pub prepare_session-requires-clause-cached : goal.prepare_session-requires-clause-cached
prepare_session-requires-clause-cached g c =
    let told = g.K.Keeper.told in
    let marks = g.K.Keeper.marks in
    cached_stays c.args.app.now (opened c.args.app.now.names) (SilenceCause (marks c.args.keeper.now) (marks c.begin.new.self)) (told c.args.keeper.now) (told c.begin.new.self) c.args.moment c.args.cache.now c.begin.ensures.tables c.requires.cached

pub returns-in-Ok-settle-clause-cached : goal.returns-in-Ok-settle-clause-cached
returns-in-Ok-settle-clause-cached g c =
    let told = g.K.Keeper.told in
    let marks = g.K.Keeper.marks in
    cached_stays c.args.app.now c.in-Ok-prepare_session.session (SilenceCause (marks c.prepare_session.new.keeper) (marks c.settle.new.keeper)) (told c.prepare_session.new.keeper) (told c.settle.new.keeper) c.args.moment c.prepare_session.new.cache
    (c.in-Ok-settle.ensures.kept refl) c.in-Ok-prepare_session.ensures.cached

pub returns-in-Ok-settle-clause-tables : goal.returns-in-Ok-settle-clause-tables
returns-in-Ok-settle-clause-tables g c =
    let told = g.K.Keeper.told in
    let began = g.K.Keeper.began in
    let marks = g.K.Keeper.marks in
    let old = c.args.keeper.now in
    let first = c.begin.new.self in
    let second = c.prepare_session.new.keeper in
    let third = c.settle.new.keeper in
    tables_through c.prepare_session.new.wrote.items (marks old) (marks first) (marks second) (marks third)
    (λ (t u : Tables). Opens c.args.app.now c.args.moment (scene t (opened c.args.app.now.names)) (scene u c.in-Ok-prepare_session.ensures.wrote.0.end)) (told old) (told first) (told second) (told third) (began second)
    c.begin.ensures.cause.later c.prepare_session.ensures.cause.later c.settle.ensures.cause.later
    c.begin.ensures.tables c.in-Ok-prepare_session.ensures.wrote.0.opens (c.in-Ok-settle.ensures.kept refl)
    (subst (λ (z : Option Tables). MayFallSilent (SilenceCause (marks first) (marks second)) Stays z (began second)) c.in-Ok.ensures.ok.1 c.prepare_session.ensures.goes_on.began)
    (g.met.K.Keeper.heard second) c.prepare_session.ensures.undoable.later

pub returns-in-Ok-settle-clause-opens : goal.returns-in-Ok-settle-clause-opens
returns-in-Ok-settle-clause-opens g c =
    let told = g.K.Keeper.told in
    let marks = g.K.Keeper.marks in
    let h = c.in-Ok-prepare_session.ensures.wrote.0 in
    let old = c.args.keeper.now in
    let first = c.begin.new.self in
    let second = c.prepare_session.new.keeper in
    let third = c.settle.new.keeper in
    record {
      end = h.end;
      opens = told_through (marks old) (marks first) (marks second) (marks third) (λ (t u : Tables). Opens c.args.app.now c.args.moment (scene t (opened c.args.app.now.names)) (scene u h.end))
          (told old) (told first) (told second) (told third) c.begin.ensures.cause.later c.prepare_session.ensures.cause.later c.settle.ensures.cause.later
          c.begin.ensures.tables h.opens (c.in-Ok-settle.ensures.kept refl);
      left = h.left;
      fits = h.fits;
    }

pub returns-in-Ok-settle-clause-wrote : goal.returns-in-Ok-settle-clause-wrote
returns-in-Ok-settle-clause-wrote g c =
    let told = g.K.Keeper.told in
    let marks = g.K.Keeper.marks in
    let h = c.in-Ok-prepare_session.ensures.wrote in
    let old = c.args.keeper.now in
    let first = c.begin.new.self in
    let second = c.prepare_session.new.keeper in
    let third = c.settle.new.keeper in (
      record {
        end = h.0.end;
        opens = told_through (marks old) (marks first) (marks second) (marks third) (λ (t u : Tables). Opens c.args.app.now c.args.moment (scene t (opened c.args.app.now.names)) (scene u h.0.end))
            (told old) (told first) (told second) (told third) c.begin.ensures.cause.later c.prepare_session.ensures.cause.later c.settle.ensures.cause.later
            c.begin.ensures.tables h.0.opens (c.in-Ok-settle.ensures.kept refl);
        left = h.0.left;
        fits = h.0.fits;
      },
      told_through (marks old) (marks first) (marks second) (marks third) (λ (t u : Tables). OpensWriting c.args.app.now c.args.moment (scene t (opened c.args.app.now.names)) (scene u h.0.end) c.prepare_session.new.wrote.items)
          (told old) (told first) (told second) (told third) c.begin.ensures.cause.later c.prepare_session.ensures.cause.later c.settle.ensures.cause.later
          c.begin.ensures.tables h.1 (c.in-Ok-settle.ensures.kept refl),
    )

pub prepare_session-requires-clause-shaped : goal.prepare_session-requires-clause-shaped
prepare_session-requires-clause-shaped g c = c.in-Ok.ensures.shaped ∙ ap steady c.requires.shaped

pub settle-requires-clause-shaped : goal.settle-requires-clause-shaped
settle-requires-clause-shaped g c = (c.args.app.now.names.schema, c.prepare_session.ensures.undoable.shaped)

pub returns-in-Ok-settle-clause-shaped : goal.returns-in-Ok-settle-clause-shaped
returns-in-Ok-settle-clause-shaped g c = c.settle.ensures.shaped ∙ c.prepare_session.ensures.undoable.shaped

pub returns-in-Err-settle-clause-shaped : goal.returns-in-Err-settle-clause-shaped
returns-in-Err-settle-clause-shaped g c = c.settle.ensures.shaped ∙ c.prepare_session.ensures.undoable.shaped

pub returns-in-Err-prepare_session-clause-shaped : goal.returns-in-Err-prepare_session-clause-shaped
returns-in-Err-prepare_session-clause-shaped g c = c.back.ensures.shaped ∙ ap gone_back c.prepare_session.ensures.undoable.shaped
