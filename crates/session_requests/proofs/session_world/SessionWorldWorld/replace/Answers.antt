use Rattle.std.proofs.Common.{◌∙◌, ◌≤◌, List, length, subst, sym}
use Rattle.std.specs.Prelude.{drop, take}
use Rattle.fx_base.specs.Silence.{SilenceCause}
use Rattle.fx_types.specs.ValueView.{view}
use Rattle.fx_core.specs.declared.sources.Source.{Source}
use Rattle.row_keeper.specs.Changes.{Replaces}
use Rattle.row_keeper.specs.Tables.{columns_at, shapes_of}
use Rattle.row_requests.specs.Written.{SameTablesExcept}
use Rattle.recalc.specs.Changes.{StaysCleanExcept}
use Rattle.session_requests.specs.Caching.{SameSessionExcept, AreSources}
use Rattle.session_requests.proofs.Readying.{sound_stays}
use Rattle.session_requests.proofs.Anchoring.{fixed_as}
use Rattle.session_requests.proofs.Caches.{has_place, noted_but, noted_counted, noted_day, noted_earlier, noted_later_as, noted_left, noted_listed, noted_order, put_is, replaced_but, right_stays, table_noted, tables_told, there_and}
use Rattle.session_requests.proofs.Keeping.{replaced, replaced_sound}
use Rattle.session_requests.proofs.session_world.SessionWorldWorld.replace.Goals as goal

pub note-requires-clause-place : goal.note-requires-clause-place
note-requires-clause-place g c =
    let w = c.args.self.now in
    has_place (g.A.SoundApp.app w.app.now) w.cache.now c.written_by.result w.order (put_is (g.A.SoundApp.app w.app.now).names c.in-Ok.put c.args.table c.written_by.result (there_and _ (g.A.SoundApp.app w.app.now).names.schema.tables c.args.table c.requires) c.written_by.ensures)

pub invariant_of-self-in-Ok-clause-order : goal.invariant_of-self-in-Ok-clause-order
invariant_of-self-in-Ok-clause-order g c =
    let w = c.args.self.now in
    let n = table_noted (g.A.SoundApp.app w.app.now) c.written_by.result w.session.now w.wrote.now.items c.reserve.new.self.items c.note.new.wrote.items w.cache.now c.note.new.cache (put_is (g.A.SoundApp.app w.app.now).names c.in-Ok.put c.args.table c.written_by.result (there_and _ (g.A.SoundApp.app w.app.now).names.schema.tables c.args.table c.requires) c.written_by.ensures)
    c.note.ensures.wrote c.in_ok-reserve.ensures.items (c.note.ensures.touched (g.A.SoundApp.app w.app.now)) in
    noted_order (g.A.SoundApp.app w.app.now) c.written_by.result w.before.now w.session.now w.session.now w.wrote.now.items c.note.new.wrote.items w.cache.now c.note.new.cache w.moment w.earlier (g.K.Keeper.told w.keeper.now) n w.order

pub invariant_of-self-in-Ok-clause-right : goal.invariant_of-self-in-Ok-clause-right
invariant_of-self-in-Ok-clause-right g c =
    let w = c.args.self.now in
    let n = table_noted (g.A.SoundApp.app w.app.now) c.written_by.result w.session.now w.wrote.now.items c.reserve.new.self.items c.note.new.wrote.items w.cache.now c.note.new.cache (put_is (g.A.SoundApp.app w.app.now).names c.in-Ok.put c.args.table c.written_by.result (there_and _ (g.A.SoundApp.app w.app.now).names.schema.tables c.args.table c.requires) c.written_by.ensures)
    c.note.ensures.wrote c.in_ok-reserve.ensures.items (c.note.ensures.touched (g.A.SoundApp.app w.app.now)) in
    tables_told (SilenceCause (g.K.Keeper.marks w.keeper.now) (g.K.Keeper.marks c.replace.new.self)) (Replaces (columns_at (shapes_of (g.K.Keeper.shaped w.keeper.now).now) c.args.table) c.args.table c.args.id c.args.cells.now c.in-Ok.put) (g.A.SoundApp.app w.app.now) w.session.now w.moment c.written_by.result w.cache.now c.note.new.cache (g.K.Keeper.told w.keeper.now) (g.K.Keeper.told c.replace.new.self)
    (λ t u h. subst (λ (ws : List Source). SameTablesExcept ws t u) (sym c.written_by.ensures) (replaced_but (columns_at (shapes_of (g.K.Keeper.shaped w.keeper.now).now) c.args.table) c.args.table c.args.id c.args.cells.now c.in-Ok.put t u h)) c.is_sound.ensures n.one c.in-Ok.ensures.put n.touched w.right

pub invariant_of-self-in-Ok-clause-dated : goal.invariant_of-self-in-Ok-clause-dated
invariant_of-self-in-Ok-clause-dated g c =
    let w = c.args.self.now in
    let n = table_noted (g.A.SoundApp.app w.app.now) c.written_by.result w.session.now w.wrote.now.items c.reserve.new.self.items c.note.new.wrote.items w.cache.now c.note.new.cache (put_is (g.A.SoundApp.app w.app.now).names c.in-Ok.put c.args.table c.written_by.result (there_and _ (g.A.SoundApp.app w.app.now).names.schema.tables c.args.table c.requires) c.written_by.ensures)
    c.note.ensures.wrote c.in_ok-reserve.ensures.items (c.note.ensures.touched (g.A.SoundApp.app w.app.now)) in
    noted_day (g.A.SoundApp.app w.app.now) c.written_by.result w.before.now w.session.now w.session.now w.wrote.now.items c.note.new.wrote.items w.cache.now c.note.new.cache w.moment w.earlier (g.K.Keeper.told w.keeper.now) n w.dated

pub invariant_of-self-in-Ok-clause-listed : goal.invariant_of-self-in-Ok-clause-listed
invariant_of-self-in-Ok-clause-listed g c =
    let w = c.args.self.now in
    let n = table_noted (g.A.SoundApp.app w.app.now) c.written_by.result w.session.now w.wrote.now.items c.reserve.new.self.items c.note.new.wrote.items w.cache.now c.note.new.cache (put_is (g.A.SoundApp.app w.app.now).names c.in-Ok.put c.args.table c.written_by.result (there_and _ (g.A.SoundApp.app w.app.now).names.schema.tables c.args.table c.requires) c.written_by.ensures)
    c.note.ensures.wrote c.in_ok-reserve.ensures.items (c.note.ensures.touched (g.A.SoundApp.app w.app.now)) in
    noted_listed (g.A.SoundApp.app w.app.now) c.written_by.result w.before.now w.session.now w.session.now w.wrote.now.items c.note.new.wrote.items w.cache.now c.note.new.cache w.moment w.earlier (g.K.Keeper.told w.keeper.now) n w.listed

pub invariant_of-self-in-Ok-clause-but : goal.invariant_of-self-in-Ok-clause-but
invariant_of-self-in-Ok-clause-but g c =
    let w = c.args.self.now in
    let n = table_noted (g.A.SoundApp.app w.app.now) c.written_by.result w.session.now w.wrote.now.items c.reserve.new.self.items c.note.new.wrote.items w.cache.now c.note.new.cache (put_is (g.A.SoundApp.app w.app.now).names c.in-Ok.put c.args.table c.written_by.result (there_and _ (g.A.SoundApp.app w.app.now).names.schema.tables c.args.table c.requires) c.written_by.ensures)
    c.note.ensures.wrote c.in_ok-reserve.ensures.items (c.note.ensures.touched (g.A.SoundApp.app w.app.now)) in
    noted_but (g.A.SoundApp.app w.app.now) c.written_by.result w.before.now w.session.now w.session.now w.wrote.now.items c.note.new.wrote.items w.cache.now c.note.new.cache w.moment w.earlier (g.K.Keeper.told w.keeper.now) n w.but

pub invariant_of-self-in-Ok-clause-counted : goal.invariant_of-self-in-Ok-clause-counted
invariant_of-self-in-Ok-clause-counted g c =
    let w = c.args.self.now in
    let n = table_noted (g.A.SoundApp.app w.app.now) c.written_by.result w.session.now w.wrote.now.items c.reserve.new.self.items c.note.new.wrote.items w.cache.now c.note.new.cache (put_is (g.A.SoundApp.app w.app.now).names c.in-Ok.put c.args.table c.written_by.result (there_and _ (g.A.SoundApp.app w.app.now).names.schema.tables c.args.table c.requires) c.written_by.ensures)
    c.note.ensures.wrote c.in_ok-reserve.ensures.items (c.note.ensures.touched (g.A.SoundApp.app w.app.now)) in
    noted_counted (g.A.SoundApp.app w.app.now) c.written_by.result w.before.now w.session.now w.session.now w.wrote.now.items c.note.new.wrote.items w.cache.now c.note.new.cache w.moment w.earlier (g.K.Keeper.told w.keeper.now) n w.counted

pub invariant_of-self-in-Err-1 : goal.invariant_of-self-in-Err-1
invariant_of-self-in-Err-1 g c =
    let w = c.args.self.now in
    record {
      today = w.today;
      lawful = w.lawful;
      shaped = c.replace.ensures.shaped ∙ w.shaped;
      begun = c.replace.ensures.mode ∙ w.begun;
      sound = sound_stays (SilenceCause (g.K.Keeper.marks w.keeper.now) (g.K.Keeper.marks c.replace.new.self)) (g.A.SoundApp.app w.app.now).names.schema (g.K.Keeper.told w.keeper.now) (g.K.Keeper.told c.replace.new.self) c.in-Err.ensures.err w.sound;
      fits = w.fits;
      order = w.order;
      right = right_stays (SilenceCause (g.K.Keeper.marks w.keeper.now) (g.K.Keeper.marks c.replace.new.self)) (g.A.SoundApp.app w.app.now) w.session.now w.moment w.cache.now (g.K.Keeper.told w.keeper.now) (g.K.Keeper.told c.replace.new.self) c.in-Err.ensures.err w.right;
      dated = w.dated;
      listed = subst (λ (xs : List Source). AreSources (g.A.SoundApp.app w.app.now).names xs) (sym c.in_ok-reserve.ensures.items) w.listed;
      but = subst (λ (xs : List Source). SameSessionExcept (g.A.SoundApp.app w.app.now).names xs w.before.now w.session.now) (sym c.in_ok-reserve.ensures.items) w.but;
      counted = subst (λ (xs : List Source). w.earlier ≤ length xs) (sym c.in_ok-reserve.ensures.items) w.counted;
      left = subst (λ (xs : List Source). StaysCleanExcept (g.A.SoundApp.app w.app.now) xs g.S.Start.start w.cache.now) (sym c.in_ok-reserve.ensures.items) w.left;
    }

pub returns-in-Ok-clause-fixed : goal.returns-in-Ok-clause-fixed
returns-in-Ok-clause-fixed g c =
    let w = c.args.self.now in
    let n = table_noted (g.A.SoundApp.app w.app.now) c.written_by.result w.session.now w.wrote.now.items c.reserve.new.self.items c.note.new.wrote.items w.cache.now c.note.new.cache (put_is (g.A.SoundApp.app w.app.now).names c.in-Ok.put c.args.table c.written_by.result (there_and _ (g.A.SoundApp.app w.app.now).names.schema.tables c.args.table c.requires) c.written_by.ensures)
    c.note.ensures.wrote c.in_ok-reserve.ensures.items (c.note.ensures.touched (g.A.SoundApp.app w.app.now)) in
    fixed_as (g.A.SoundApp.app w.app.now) w.moment w.before.now (take w.earlier c.note.new.wrote.items) (take w.earlier w.wrote.now.items) w.session.ghost_name w.cache.ghost_name w.keeper.ghost_name w.wrote.ghost_name (g.K.Keeper.loan c.replace.new.self) (g.K.Keeper.loan w.keeper.now) (g.K.Keeper.in_transaction c.replace.new.self) (g.K.Keeper.in_transaction w.keeper.now)
    (noted_earlier (g.A.SoundApp.app w.app.now) c.written_by.result w.before.now w.session.now w.session.now w.wrote.now.items c.note.new.wrote.items w.cache.now c.note.new.cache w.moment w.earlier (g.K.Keeper.told w.keeper.now) n w.counted) c.replace.ensures.loan c.replace.ensures.mode

pub invariant_of-self-in-Ok-clause-sound : goal.invariant_of-self-in-Ok-clause-sound
invariant_of-self-in-Ok-clause-sound g c =
    replaced_sound (g.A.SoundApp.app c.args.self.now.app.now).names.schema _ _ c.args.table c.args.id c.args.cells.now c.in-Ok.put _ _ c.requires c.args.self.now.sound c.in-Ok.ensures.put

pub returns-in-Ok-clause-put : goal.returns-in-Ok-clause-put
returns-in-Ok-clause-put g c =
    let w = c.args.self.now in
    let n = table_noted (g.A.SoundApp.app w.app.now) c.written_by.result w.session.now w.wrote.now.items c.reserve.new.self.items c.note.new.wrote.items w.cache.now c.note.new.cache (put_is (g.A.SoundApp.app w.app.now).names c.in-Ok.put c.args.table c.written_by.result (there_and _ (g.A.SoundApp.app w.app.now).names.schema.tables c.args.table c.requires) c.written_by.ensures)
    c.note.ensures.wrote c.in_ok-reserve.ensures.items (c.note.ensures.touched (g.A.SoundApp.app w.app.now)) in
    replaced _ (g.A.SoundApp.app w.app.now).names.schema (g.K.Keeper.shaped w.keeper.now) c.args.table c.args.id c.args.cells.now c.in-Ok.put (view w.day.now) (g.A.SoundApp.app w.app.now) w.moment w.session.now w.cache.now.values.cells c.note.new.cache.values.cells (drop w.earlier w.wrote.now.items) (drop w.earlier c.note.new.wrote.items)
    (g.K.Keeper.began w.keeper.now) (g.K.Keeper.began c.replace.new.self) (g.K.Keeper.told w.keeper.now) (g.K.Keeper.told c.replace.new.self) w.shaped
    (noted_later_as (g.A.SoundApp.app w.app.now) c.written_by.result w.before.now w.session.now w.session.now w.wrote.now.items c.note.new.wrote.items w.cache.now c.note.new.cache w.moment w.earlier (g.K.Keeper.told w.keeper.now) n _ c.written_by.ensures w.counted)
    (g.met.K.Keeper.heard c.replace.new.self) c.in-Ok.ensures.put c.in-Ok.ensures.began

pub invariant_of-self-in-Ok-clause-left : goal.invariant_of-self-in-Ok-clause-left
invariant_of-self-in-Ok-clause-left g c =
    let w = c.args.self.now in
    let n = table_noted (g.A.SoundApp.app w.app.now) c.written_by.result w.session.now w.wrote.now.items c.reserve.new.self.items c.note.new.wrote.items w.cache.now c.note.new.cache (put_is (g.A.SoundApp.app w.app.now).names c.in-Ok.put c.args.table c.written_by.result (there_and _ (g.A.SoundApp.app w.app.now).names.schema.tables c.args.table c.requires) c.written_by.ensures)
    c.note.ensures.wrote c.in_ok-reserve.ensures.items (c.note.ensures.touched (g.A.SoundApp.app w.app.now)) in
    noted_left (g.A.SoundApp.app w.app.now) c.written_by.result w.before.now w.session.now w.session.now w.wrote.now.items c.note.new.wrote.items w.cache.now c.note.new.cache w.moment w.earlier (g.K.Keeper.told w.keeper.now) n g.S.Start.start w.left
