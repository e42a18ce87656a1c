use Rattle.std.proofs.Common.{◌≤◌, List, Option, ap, length, refl, subst, sym}
use Rattle.std.specs.Prelude.{drop, take}
use Rattle.std.specs.Option.{option_to_list}
use Rattle.fx_base.specs.Silence.{MayFallSilent, SilenceCause}
use Rattle.fx_types.specs.ValueView.{view}
use Rattle.fx_deeds.specs.Changed.{IsChanged}
use Rattle.fx_core.specs.declared.sources.Source.{Source}
use Rattle.recalc.specs.Outcomes.{IsRightOver}
use Rattle.session_state.specs.Changes.{FitsNames}
use Rattle.session_state.specs.Sessions.{SessionState}
use Rattle.recalc.specs.Changes.{StaysCleanExcept}
use Rattle.session_requests.specs.Caching.{SameSessionExcept, AreSources}
use Rattle.session_requests.specs.WorldContext.{grounds}
use Rattle.session_requests.proofs.Anchoring.{fixed_as}
use Rattle.session_requests.proofs.Caches.{IsOneOf, has_place, noted_but, noted_counted, noted_day, noted_earlier, noted_later_as, noted_left, noted_listed, noted_order, noted_right, session_noted, when_is, written_is}
use Rattle.session_requests.proofs.Changing.{is_there, session_goes}
use Rattle.session_requests.proofs.WorldEnding.{told_state}
use Rattle.session_requests.proofs.session_world.SessionWorldWorld.change.Goals as goal

pub change-requires : goal.change-requires
change-requires g c = is_there (g.A.SoundApp.app c.args.self.now.app.now).names c.args.self.now.session.now c.args.change c.args.self.now.fits c.requires

pub note-requires-clause-place : goal.note-requires-clause-place
note-requires-clause-place g c =
    let w = c.args.self.now in
    has_place (g.A.SoundApp.app w.app.now) w.cache.now c.when.result w.order
    (subst (λ (o : Option Source). IsOneOf (g.A.SoundApp.app w.app.now).names o) (sym c.when.ensures) (when_is (g.A.SoundApp.app w.app.now).names c.in-Ok.done c.source_of-source.result (written_is (g.A.SoundApp.app w.app.now).names c.args.change c.source_of-source.result c.requires c.source_of-source.ensures)))

pub invariant_of-self-in-Ok-clause-order : goal.invariant_of-self-in-Ok-clause-order
invariant_of-self-in-Ok-clause-order g c =
    let w = c.args.self.now in
    let n = session_noted (g.A.SoundApp.app w.app.now) c.args.change c.in-Ok.done c.source_of-source.result c.when.result w.session.now c.change.new.self w.wrote.now.items c.reserve.new.self.items c.note.new.wrote.items w.cache.now c.note.new.cache c.requires c.source_of-source.ensures c.when.ensures c.in-Ok.ensures.changed
    c.note.ensures.wrote c.in_ok-reserve.ensures.items (c.note.ensures.touched (g.A.SoundApp.app w.app.now)) in
    noted_order (g.A.SoundApp.app w.app.now) c.when.result w.before.now w.session.now c.change.new.self w.wrote.now.items c.note.new.wrote.items w.cache.now c.note.new.cache w.moment w.earlier (g.K.Keeper.told w.keeper.now) n w.order

pub invariant_of-self-in-Ok-clause-right : goal.invariant_of-self-in-Ok-clause-right
invariant_of-self-in-Ok-clause-right g c =
    let w = c.args.self.now in
    let n = session_noted (g.A.SoundApp.app w.app.now) c.args.change c.in-Ok.done c.source_of-source.result c.when.result w.session.now c.change.new.self w.wrote.now.items c.reserve.new.self.items c.note.new.wrote.items w.cache.now c.note.new.cache c.requires c.source_of-source.ensures c.when.ensures c.in-Ok.ensures.changed
    c.note.ensures.wrote c.in_ok-reserve.ensures.items (c.note.ensures.touched (g.A.SoundApp.app w.app.now)) in
    noted_right (g.A.SoundApp.app w.app.now) c.when.result w.before.now w.session.now c.change.new.self w.wrote.now.items c.note.new.wrote.items w.cache.now c.note.new.cache w.moment w.earlier (g.K.Keeper.told w.keeper.now) n c.is_sound.ensures w.right

pub invariant_of-self-in-Ok-clause-dated : goal.invariant_of-self-in-Ok-clause-dated
invariant_of-self-in-Ok-clause-dated g c =
    let w = c.args.self.now in
    let n = session_noted (g.A.SoundApp.app w.app.now) c.args.change c.in-Ok.done c.source_of-source.result c.when.result w.session.now c.change.new.self w.wrote.now.items c.reserve.new.self.items c.note.new.wrote.items w.cache.now c.note.new.cache c.requires c.source_of-source.ensures c.when.ensures c.in-Ok.ensures.changed
    c.note.ensures.wrote c.in_ok-reserve.ensures.items (c.note.ensures.touched (g.A.SoundApp.app w.app.now)) in
    noted_day (g.A.SoundApp.app w.app.now) c.when.result w.before.now w.session.now c.change.new.self w.wrote.now.items c.note.new.wrote.items w.cache.now c.note.new.cache w.moment w.earlier (g.K.Keeper.told w.keeper.now) n w.dated

pub invariant_of-self-in-Ok-clause-listed : goal.invariant_of-self-in-Ok-clause-listed
invariant_of-self-in-Ok-clause-listed g c =
    let w = c.args.self.now in
    let n = session_noted (g.A.SoundApp.app w.app.now) c.args.change c.in-Ok.done c.source_of-source.result c.when.result w.session.now c.change.new.self w.wrote.now.items c.reserve.new.self.items c.note.new.wrote.items w.cache.now c.note.new.cache c.requires c.source_of-source.ensures c.when.ensures c.in-Ok.ensures.changed
    c.note.ensures.wrote c.in_ok-reserve.ensures.items (c.note.ensures.touched (g.A.SoundApp.app w.app.now)) in
    noted_listed (g.A.SoundApp.app w.app.now) c.when.result w.before.now w.session.now c.change.new.self w.wrote.now.items c.note.new.wrote.items w.cache.now c.note.new.cache w.moment w.earlier (g.K.Keeper.told w.keeper.now) n w.listed

pub invariant_of-self-in-Ok-clause-but : goal.invariant_of-self-in-Ok-clause-but
invariant_of-self-in-Ok-clause-but g c =
    let w = c.args.self.now in
    let n = session_noted (g.A.SoundApp.app w.app.now) c.args.change c.in-Ok.done c.source_of-source.result c.when.result w.session.now c.change.new.self w.wrote.now.items c.reserve.new.self.items c.note.new.wrote.items w.cache.now c.note.new.cache c.requires c.source_of-source.ensures c.when.ensures c.in-Ok.ensures.changed
    c.note.ensures.wrote c.in_ok-reserve.ensures.items (c.note.ensures.touched (g.A.SoundApp.app w.app.now)) in
    noted_but (g.A.SoundApp.app w.app.now) c.when.result w.before.now w.session.now c.change.new.self w.wrote.now.items c.note.new.wrote.items w.cache.now c.note.new.cache w.moment w.earlier (g.K.Keeper.told w.keeper.now) n w.but

pub invariant_of-self-in-Ok-clause-counted : goal.invariant_of-self-in-Ok-clause-counted
invariant_of-self-in-Ok-clause-counted g c =
    let w = c.args.self.now in
    let n = session_noted (g.A.SoundApp.app w.app.now) c.args.change c.in-Ok.done c.source_of-source.result c.when.result w.session.now c.change.new.self w.wrote.now.items c.reserve.new.self.items c.note.new.wrote.items w.cache.now c.note.new.cache c.requires c.source_of-source.ensures c.when.ensures c.in-Ok.ensures.changed
    c.note.ensures.wrote c.in_ok-reserve.ensures.items (c.note.ensures.touched (g.A.SoundApp.app w.app.now)) in
    noted_counted (g.A.SoundApp.app w.app.now) c.when.result w.before.now w.session.now c.change.new.self w.wrote.now.items c.note.new.wrote.items w.cache.now c.note.new.cache w.moment w.earlier (g.K.Keeper.told w.keeper.now) n w.counted

pub invariant_of-self-in-Err-clause-right : goal.invariant_of-self-in-Err-clause-right
invariant_of-self-in-Err-clause-right g c =
    let w = c.args.self.now in
    subst (λ (z : SessionState). ∥ IsRightOver (g.A.SoundApp.app w.app.now) z (g.K.Keeper.told w.keeper.now) w.moment w.cache.now ∥₁) (sym c.in-Err.ensures.err) w.right

pub invariant_of-self-in-Err-clause-fits : goal.invariant_of-self-in-Err-clause-fits
invariant_of-self-in-Err-clause-fits g c =
    let w = c.args.self.now in
    subst (λ (z : SessionState). FitsNames (g.A.SoundApp.app w.app.now).names z) (sym c.in-Err.ensures.err) w.fits

pub invariant_of-self-in-Err-clause-but : goal.invariant_of-self-in-Err-clause-but
invariant_of-self-in-Err-clause-but g c =
    let w = c.args.self.now in
    subst (λ (z : SessionState). SameSessionExcept (g.A.SoundApp.app w.app.now).names c.reserve.new.self.items w.before.now z) (sym c.in-Err.ensures.err) (subst (λ (xs : List Source). SameSessionExcept (g.A.SoundApp.app w.app.now).names xs w.before.now w.session.now) (sym c.in_ok-reserve.ensures.items) w.but)

pub invariant_of-self-in-Err-clause-listed : goal.invariant_of-self-in-Err-clause-listed
invariant_of-self-in-Err-clause-listed g c =
    let w = c.args.self.now in
    subst (λ (xs : List Source). AreSources (g.A.SoundApp.app w.app.now).names xs) (sym c.in_ok-reserve.ensures.items) w.listed

pub invariant_of-self-in-Err-clause-counted : goal.invariant_of-self-in-Err-clause-counted
invariant_of-self-in-Err-clause-counted g c =
    let w = c.args.self.now in
    subst (λ (xs : List Source). w.earlier ≤ length xs) (sym c.in_ok-reserve.ensures.items) w.counted

pub returns-in-Ok-clause-fixed : goal.returns-in-Ok-clause-fixed
returns-in-Ok-clause-fixed g c =
    let w = c.args.self.now in
    let n = session_noted (g.A.SoundApp.app w.app.now) c.args.change c.in-Ok.done c.source_of-source.result c.when.result w.session.now c.change.new.self w.wrote.now.items c.reserve.new.self.items c.note.new.wrote.items w.cache.now c.note.new.cache c.requires c.source_of-source.ensures c.when.ensures c.in-Ok.ensures.changed
    c.note.ensures.wrote c.in_ok-reserve.ensures.items (c.note.ensures.touched (g.A.SoundApp.app w.app.now)) in
    fixed_as (g.A.SoundApp.app w.app.now) w.moment w.before.now (take w.earlier c.note.new.wrote.items) (take w.earlier w.wrote.now.items) w.session.ghost_name w.cache.ghost_name w.keeper.ghost_name w.wrote.ghost_name (g.K.Keeper.loan w.keeper.now) (g.K.Keeper.loan w.keeper.now) (g.K.Keeper.in_transaction w.keeper.now) (g.K.Keeper.in_transaction w.keeper.now)
    (noted_earlier (g.A.SoundApp.app w.app.now) c.when.result w.before.now w.session.now c.change.new.self w.wrote.now.items c.note.new.wrote.items w.cache.now c.note.new.cache w.moment w.earlier (g.K.Keeper.told w.keeper.now) n w.counted) refl refl

pub returns-in-Ok-clause-done : goal.returns-in-Ok-clause-done
returns-in-Ok-clause-done g c =
    let w = c.args.self.now in
    let n = session_noted (g.A.SoundApp.app w.app.now) c.args.change c.in-Ok.done c.source_of-source.result c.when.result w.session.now c.change.new.self w.wrote.now.items c.reserve.new.self.items c.note.new.wrote.items w.cache.now c.note.new.cache c.requires c.source_of-source.ensures c.when.ensures c.in-Ok.ensures.changed
    c.note.ensures.wrote c.in_ok-reserve.ensures.items (c.note.ensures.touched (g.A.SoundApp.app w.app.now)) in
    let lost = SilenceCause (g.K.Keeper.marks w.keeper.now) (g.K.Keeper.marks w.keeper.now) in
    let h = grounds (g.A.SoundApp.app w.app.now) w.moment (g.K.Keeper.began w.keeper.now) in
    let more = noted_later_as (g.A.SoundApp.app w.app.now) c.when.result w.before.now w.session.now c.change.new.self w.wrote.now.items c.note.new.wrote.items w.cache.now c.note.new.cache w.moment w.earlier (g.K.Keeper.told w.keeper.now) n _ (ap option_to_list c.when.ensures) w.counted in
    subst (λ (xs : List Source). MayFallSilent lost (IsChanged c.args.change c.in-Ok.done) (told_state (view w.day.now) h w.session.now w.cache.now.values.cells (drop w.earlier w.wrote.now.items) (g.K.Keeper.told w.keeper.now)) (told_state (view w.day.now) h c.change.new.self c.note.new.cache.values.cells xs (g.K.Keeper.told w.keeper.now))) (sym more)
    (session_goes lost c.args.change c.in-Ok.done (view w.day.now) h w.session.now c.change.new.self w.cache.now.values.cells c.note.new.cache.values.cells (drop w.earlier w.wrote.now.items) c.source_of-source.result (g.K.Keeper.told w.keeper.now) c.source_of-source.ensures c.in-Ok.ensures.answer c.in-Ok.ensures.changed)

pub invariant_of-self-in-Ok-clause-left : goal.invariant_of-self-in-Ok-clause-left
invariant_of-self-in-Ok-clause-left g c =
    let w = c.args.self.now in
    let n = session_noted (g.A.SoundApp.app w.app.now) c.args.change c.in-Ok.done c.source_of-source.result c.when.result w.session.now c.change.new.self w.wrote.now.items c.reserve.new.self.items c.note.new.wrote.items w.cache.now c.note.new.cache c.requires c.source_of-source.ensures c.when.ensures c.in-Ok.ensures.changed
    c.note.ensures.wrote c.in_ok-reserve.ensures.items (c.note.ensures.touched (g.A.SoundApp.app w.app.now)) in
    noted_left (g.A.SoundApp.app w.app.now) c.when.result w.before.now w.session.now c.change.new.self w.wrote.now.items c.note.new.wrote.items w.cache.now c.note.new.cache w.moment w.earlier (g.K.Keeper.told w.keeper.now) n g.S.Start.start w.left

pub invariant_of-self-in-Err-clause-left : goal.invariant_of-self-in-Err-clause-left
invariant_of-self-in-Err-clause-left g c =
    let w = c.args.self.now in
    subst (λ (xs : List Source). StaysCleanExcept (g.A.SoundApp.app w.app.now) xs g.S.Start.start w.cache.now) (sym c.in_ok-reserve.ensures.items) w.left
