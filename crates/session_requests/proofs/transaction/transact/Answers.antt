use Rattle.std.proofs.Common.{Option, drop, length, option_map, refl, subst}
use Rattle.fx_base.specs.Silence.{MayFallSilent, SilenceCause}
use Rattle.fx_base.specs.Telling.{Stays}
use Rattle.fx_types.specs.ValueView.{view}
use Rattle.row_keeper.specs.Tables.{Tables}
use Rattle.session_requests.specs.Scenes.{begun, scene}
use Rattle.session_requests.specs.WrittenWhole.{IsInAll, RequestWrites}
use Rattle.session_requests.specs.Writable.{AllSources, RequestMayWrite}
use Rattle.session_requests.proofs.Cuts.{cut_stayed, cut_undone, cut_whole}
use Rattle.row_keeper.proofs.ShapeLemmas.{still_back}
use Rattle.session_requests.proofs.Transactions.{accepted_through, begins, kept, not_begun, taken_back, told_back}
use Rattle.session_requests.proofs.Undone.{but_back, cached_pending, cached_stays, pending_stays}
use Rattle.session_requests.proofs.Writable.{only_ended, only_stayed, only_undone}
use Rattle.session_requests.proofs.transaction.transact.Goals as goal

pub prepare-requires-clause-under_way : goal.prepare-requires-clause-under_way
prepare-requires-clause-under_way g c =
    begins g.K.Keeper c.args.app.now c.args.moment c.args.before.now c.args.session c.args.cache.now c.args.keeper.now c.begin.new.self c.args.wrote.now.items (SilenceCause (g.K.Keeper.marks c.args.keeper.now) (g.K.Keeper.marks c.begin.new.self)) c.requires.ready c.begin.ensures.tables c.in-Ok.ensures.shaped c.in-Ok.ensures.ok.0 c.in-Ok.ensures.ok.1

pub returns-in-Ok-settle-clause-accepted : goal.returns-in-Ok-settle-clause-accepted
returns-in-Ok-settle-clause-accepted g c =
    accepted_through g.K.Keeper c.args.app.now c.args.moment c.args.before.now c.args.cache.now c.prepare.new.cache c.args.keeper.now c.begin.new.self c.prepare.new.keeper c.settle.new.keeper c.args.wrote.now.items c.prepare.new.wrote.items c.args.trigger (option_map view c.args.item) c.args.seq c.args.session (drop (length c.args.wrote.now.items) c.prepare.new.wrote.items) c.in-Ok-prepare.accepted c.begin.ensures.cause.later c.prepare.ensures.cause.later c.settle.ensures.cause.later c.begin.ensures.tables c.in-Ok-prepare.ensures.accepted (c.in-Ok-settle.ensures.kept refl)

pub returns-in-Err-settle-clause-stopped : goal.returns-in-Err-settle-clause-stopped
returns-in-Err-settle-clause-stopped g c =
    told_back g.K.Keeper c.args.app.now c.args.moment c.args.before.now c.args.cache.now c.prepare.new.cache c.args.keeper.now c.begin.new.self c.prepare.new.keeper c.settle.new.keeper c.args.wrote.now.items c.prepare.new.wrote.items c.begin.ensures.cause.later c.prepare.ensures.cause.later c.settle.ensures.cause.later c.begin.ensures.tables c.in-Ok.ensures.ok.1 c.prepare.ensures.goes_on c.in-Err-settle.ensures.stopped

pub returns-in-Err-prepare-clause-stopped : goal.returns-in-Err-prepare-clause-stopped
returns-in-Err-prepare-clause-stopped g c =
    told_back g.K.Keeper c.args.app.now c.args.moment c.args.before.now c.args.cache.now c.prepare.new.cache c.args.keeper.now c.begin.new.self c.prepare.new.keeper c.back.new.self c.args.wrote.now.items c.prepare.new.wrote.items c.begin.ensures.cause.later c.prepare.ensures.cause.later c.back.ensures.later c.begin.ensures.tables c.in-Ok.ensures.ok.1 c.prepare.ensures.goes_on c.back.ensures.tables

pub returns-in-Err-clause-ended : goal.returns-in-Err-clause-ended
returns-in-Err-clause-ended g c =
    not_begun g.K.Keeper c.args.app.now c.args.moment c.args.before.now c.args.session c.args.cache.now c.args.keeper.now c.begin.new.self c.args.wrote.now.items c.requires.ready c.begin.ensures.tables c.in-Err.ensures.err_shaped c.in-Err.ensures.err c.begin.ensures.loan

pub returns-in-Ok-settle-clause-ended : goal.returns-in-Ok-settle-clause-ended
returns-in-Ok-settle-clause-ended g c =
    kept g.K.Keeper c.args.app.now c.args.moment c.args.before.now c.args.cache.now c.prepare.new.cache c.args.keeper.now c.begin.new.self c.prepare.new.keeper c.settle.new.keeper c.args.wrote.now.items c.prepare.new.wrote.items _ c.begin.ensures.cause.later c.prepare.ensures.cause.later c.settle.ensures.cause.later c.begin.ensures.tables c.in-Ok.ensures.ok.1 c.prepare.ensures.goes_on c.prepare.ensures.undoable
    c.prepare.ensures.only (c.in-Ok-settle.ensures.kept refl) (g.met.K.Keeper.heard c.prepare.new.keeper) c.settle.ensures.shaped c.settle.ensures.idle c.settle.ensures.loan c.begin.ensures.loan

pub returns-in-Err-settle-clause-ended : goal.returns-in-Err-settle-clause-ended
returns-in-Err-settle-clause-ended g c =
    taken_back g.K.Keeper c.args.app.now c.args.moment c.args.before.now c.args.cache.now c.prepare.new.cache c.args.keeper.now c.begin.new.self c.prepare.new.keeper c.settle.new.keeper c.args.wrote.now.items c.prepare.new.wrote.items c.requires.ready.rows c.prepare.ensures.goes_on c.prepare.ensures.undoable
    (told_back g.K.Keeper c.args.app.now c.args.moment c.args.before.now c.args.cache.now c.prepare.new.cache c.args.keeper.now c.begin.new.self c.prepare.new.keeper c.settle.new.keeper c.args.wrote.now.items c.prepare.new.wrote.items c.begin.ensures.cause.later c.prepare.ensures.cause.later c.settle.ensures.cause.later c.begin.ensures.tables c.in-Ok.ensures.ok.1 c.prepare.ensures.goes_on c.in-Err-settle.ensures.stopped)
    c.settle.ensures.shaped c.settle.ensures.idle c.settle.ensures.loan c.begin.ensures.loan

pub returns-in-Err-prepare-clause-ended : goal.returns-in-Err-prepare-clause-ended
returns-in-Err-prepare-clause-ended g c =
    taken_back g.K.Keeper c.args.app.now c.args.moment c.args.before.now c.args.cache.now c.prepare.new.cache c.args.keeper.now c.begin.new.self c.prepare.new.keeper c.back.new.self c.args.wrote.now.items c.prepare.new.wrote.items c.requires.ready.rows c.prepare.ensures.goes_on c.prepare.ensures.undoable
    (told_back g.K.Keeper c.args.app.now c.args.moment c.args.before.now c.args.cache.now c.prepare.new.cache c.args.keeper.now c.begin.new.self c.prepare.new.keeper c.back.new.self c.args.wrote.now.items c.prepare.new.wrote.items c.begin.ensures.cause.later c.prepare.ensures.cause.later c.back.ensures.later c.begin.ensures.tables c.in-Ok.ensures.ok.1 c.prepare.ensures.goes_on c.back.ensures.tables)
    (still_back _ _ c.args.app.now.names.schema c.prepare.ensures.undoable.shaped c.back.ensures.shaped) c.back.ensures.idle c.back.ensures.loan c.begin.ensures.loan

pub returns-in-Err-clause-pending : goal.returns-in-Err-clause-pending
returns-in-Err-clause-pending g c =
    let told = g.K.Keeper.told in
    let marks = g.K.Keeper.marks in
    cached_pending c.args.app.now c.args.wrote.now.items c.args.session c.args.before.now (told c.begin.new.self) c.args.moment c.args.cache.now c.requires.sound (but_back c.args.app.now.names c.args.wrote.now.items c.args.before.now c.args.session c.requires.ready.but)
    (cached_stays c.args.app.now c.args.session (SilenceCause (marks c.args.keeper.now) (marks c.begin.new.self)) (told c.args.keeper.now) (told c.begin.new.self) c.args.moment c.args.cache.now c.begin.ensures.tables c.requires.ready.cached)

pub returns-in-Err-settle-clause-pending : goal.returns-in-Err-settle-clause-pending
returns-in-Err-settle-clause-pending g c =
    let marks = g.K.Keeper.marks in
    pending_stays c.args.app.now c.args.before.now (SilenceCause (marks c.prepare.new.keeper) (marks c.settle.new.keeper)) (g.K.Keeper.began c.prepare.new.keeper) (g.K.Keeper.told c.settle.new.keeper) c.args.moment c.prepare.new.wrote.items c.prepare.new.cache
    c.in-Err-settle.ensures.stopped c.prepare.ensures.undoable.pending

pub returns-in-Err-prepare-clause-pending : goal.returns-in-Err-prepare-clause-pending
returns-in-Err-prepare-clause-pending g c =
    let marks = g.K.Keeper.marks in
    pending_stays c.args.app.now c.args.before.now (SilenceCause (marks c.prepare.new.keeper) (marks c.back.new.self)) (g.K.Keeper.began c.prepare.new.keeper) (g.K.Keeper.told c.back.new.self) c.args.moment c.prepare.new.wrote.items c.prepare.new.cache
    c.back.ensures.tables c.prepare.ensures.undoable.pending

pub returns-in-Err-clause-only : goal.returns-in-Err-clause-only
returns-in-Err-clause-only g c =
    only_stayed (SilenceCause (g.K.Keeper.marks c.args.keeper.now) (g.K.Keeper.marks c.begin.new.self)) (RequestMayWrite c.args.app.now c.args.trigger) c.args.wrote.now.items (g.K.Keeper.told c.args.keeper.now) (g.K.Keeper.told c.begin.new.self) c.begin.ensures.tables

pub returns-in-Ok-settle-clause-only : goal.returns-in-Ok-settle-clause-only
returns-in-Ok-settle-clause-only g c =
    let told = g.K.Keeper.told in
    let marks = g.K.Keeper.marks in
    only_ended (marks c.args.keeper.now) (marks c.begin.new.self) (marks c.prepare.new.keeper) (marks c.settle.new.keeper) (AllSources (RequestMayWrite c.args.app.now c.args.trigger) (drop (length c.args.wrote.now.items) c.prepare.new.wrote.items))
    (told c.args.keeper.now) (told c.begin.new.self) (told c.prepare.new.keeper) (told c.settle.new.keeper) c.begin.ensures.cause.later c.prepare.ensures.cause.later c.settle.ensures.cause.later
    c.begin.ensures.tables c.prepare.ensures.only (c.in-Ok-settle.ensures.kept refl)

pub returns-in-Err-settle-clause-only : goal.returns-in-Err-settle-clause-only
returns-in-Err-settle-clause-only g c =
    let told = g.K.Keeper.told in
    let began = g.K.Keeper.began in
    let marks = g.K.Keeper.marks in
    let first = c.begin.new.self in
    let second = c.prepare.new.keeper in
    only_undone (marks c.args.keeper.now) (marks first) (marks second) (marks c.settle.new.keeper) (AllSources (RequestMayWrite c.args.app.now c.args.trigger) (drop (length c.args.wrote.now.items) c.prepare.new.wrote.items))
    (told c.args.keeper.now) (told first) (told second) (began second) (told c.settle.new.keeper) c.begin.ensures.cause.later c.prepare.ensures.cause.later c.settle.ensures.cause.later c.begin.ensures.tables c.prepare.ensures.only
    (subst (λ (z : Option Tables). MayFallSilent (SilenceCause (marks first) (marks second)) Stays z (began second)) c.in-Ok.ensures.ok.1 c.prepare.ensures.goes_on.began) (λ e. (g.met.K.Keeper.quiet second e).0) c.in-Err-settle.ensures.stopped

pub returns-in-Err-prepare-clause-only : goal.returns-in-Err-prepare-clause-only
returns-in-Err-prepare-clause-only g c =
    let told = g.K.Keeper.told in
    let began = g.K.Keeper.began in
    let marks = g.K.Keeper.marks in
    let first = c.begin.new.self in
    let second = c.prepare.new.keeper in
    only_undone (marks c.args.keeper.now) (marks first) (marks second) (marks c.back.new.self) (AllSources (RequestMayWrite c.args.app.now c.args.trigger) (drop (length c.args.wrote.now.items) c.prepare.new.wrote.items))
    (told c.args.keeper.now) (told first) (told second) (began second) (told c.back.new.self) c.begin.ensures.cause.later c.prepare.ensures.cause.later c.back.ensures.later c.begin.ensures.tables c.prepare.ensures.only
    (subst (λ (z : Option Tables). MayFallSilent (SilenceCause (marks first) (marks second)) Stays z (began second)) c.in-Ok.ensures.ok.1 c.prepare.ensures.goes_on.began) (λ e. (g.met.K.Keeper.quiet second e).0) c.back.ensures.tables

pub returns-in-Err-clause-cut : goal.returns-in-Err-clause-cut
returns-in-Err-clause-cut g c =
    cut_stayed (SilenceCause (g.K.Keeper.marks c.args.keeper.now) (g.K.Keeper.marks c.begin.new.self)) (λ (t : Tables). IsInAll (RequestWrites c.args.app.now c.args.moment c.args.trigger (option_map view c.args.item) (scene t (begun c.args.session)))) c.args.wrote.now.items
    (g.K.Keeper.told c.args.keeper.now) (g.K.Keeper.told c.begin.new.self) c.begin.ensures.tables

pub returns-in-Err-settle-clause-cut : goal.returns-in-Err-settle-clause-cut
returns-in-Err-settle-clause-cut g c =
    let told = g.K.Keeper.told in
    let began = g.K.Keeper.began in
    let marks = g.K.Keeper.marks in
    let first = c.begin.new.self in
    let second = c.prepare.new.keeper in
    let ws = drop (length c.args.wrote.now.items) c.prepare.new.wrote.items in
    let h = c.in-Ok-prepare.ensures.accepted.wrote in
    cut_undone (marks c.args.keeper.now) (marks first) (marks second) (marks c.settle.new.keeper) (λ (t : Tables). AllSources (IsInAll (RequestWrites c.args.app.now c.args.moment c.args.trigger (option_map view c.args.item) (scene t (begun c.args.session)))) ws)
    (told c.args.keeper.now) (told first) (told second) (began second) (told c.settle.new.keeper) c.begin.ensures.cause.later c.prepare.ensures.cause.later c.settle.ensures.cause.later c.begin.ensures.tables
    (cut_whole c.one_acting.ensures (SilenceCause (marks first) (marks second)) c.args.app.now c.args.moment c.args.trigger (option_map view c.args.item) (begun c.args.session) h.1 h.0 ws (told first) (told second) h.2)
    (subst (λ (z : Option Tables). MayFallSilent (SilenceCause (marks first) (marks second)) Stays z (began second)) c.in-Ok.ensures.ok.1 c.prepare.ensures.goes_on.began) (λ e. (g.met.K.Keeper.quiet second e).0) c.in-Err-settle.ensures.stopped

pub returns-in-Err-prepare-clause-cut : goal.returns-in-Err-prepare-clause-cut
returns-in-Err-prepare-clause-cut g c =
    let told = g.K.Keeper.told in
    let began = g.K.Keeper.began in
    let marks = g.K.Keeper.marks in
    let first = c.begin.new.self in
    let second = c.prepare.new.keeper in
    let ws = drop (length c.args.wrote.now.items) c.prepare.new.wrote.items in
    cut_undone (marks c.args.keeper.now) (marks first) (marks second) (marks c.back.new.self) (λ (t : Tables). AllSources (IsInAll (RequestWrites c.args.app.now c.args.moment c.args.trigger (option_map view c.args.item) (scene t (begun c.args.session)))) ws)
    (told c.args.keeper.now) (told first) (told second) (began second) (told c.back.new.self) c.begin.ensures.cause.later c.prepare.ensures.cause.later c.back.ensures.later c.begin.ensures.tables c.in-Err-prepare.ensures.cut
    (subst (λ (z : Option Tables). MayFallSilent (SilenceCause (marks first) (marks second)) Stays z (began second)) c.in-Ok.ensures.ok.1 c.prepare.ensures.goes_on.began) (λ e. (g.met.K.Keeper.quiet second e).0) c.back.ensures.tables

pub settle-requires-clause-shaped : goal.settle-requires-clause-shaped
settle-requires-clause-shaped g c = (c.args.app.now.names.schema, c.prepare.ensures.undoable.shaped)
