use Rattle.std.proofs.Common.{◌∙◌, List, ap, map, subst}
use Rattle.std.specs.Prelude.{drop}
use Rattle.fx_types.specs.ValueView.{view}
use Rattle.fx_types.specs.Values.{Data}
use Rattle.recalc.specs.Queries.{IsTableValue}
use Rattle.recalc.specs.Reading.{told_by}
use Rattle.recalc.specs.Values.{CellValues}
use Rattle.recalc.specs.app_cells.declared.app.App.{App}
use Rattle.row_keeper.specs.Tables.{rows_told}
use Rattle.session_requests.specs.WorldContext.{grounds}
use Rattle.fx_base.specs.Silence.{SilenceCause}
use Rattle.session_requests.proofs.Caches.{right_stays}
use Rattle.session_requests.proofs.Readying.{sound_stays}
use Rattle.session_requests.proofs.WorldTelling.{all_fit, other_given, own_held, table_given}
use Rattle.session_requests.proofs.session_world.SessionWorldEnv.read.Goals as goal

pub given_value-requires : goal.given_value-requires
given_value-requires g c =
    let w = c.args.self.now in
    record {
      held = λ o. own_held (g.A.SoundApp.app w.app.now).names w.session.now c.args.source w.fits c.requires o;
      no_table = λ k e. c.in_default.not-Table k e;
    }

pub returns-in-Ok-clause-value : goal.returns-in-Ok-clause-value
returns-in-Ok-clause-value g c =
    let w = c.args.self.now in
    table_given c.rows_fit.ensures (view w.day.now) (grounds (g.A.SoundApp.app w.app.now) w.moment (g.K.Keeper.began c.table_value.new.keeper)) w.session.now w.cache.now.values.cells (drop w.earlier w.wrote.now.items)
    (g.K.Keeper.told c.table_value.new.keeper) c.in-Table.table c.args.source (view c.in-Ok.value) w.lawful c.in-Table.is
    (subst (λ (a : App). IsTableValue a.names.schema.tables (rows_told (g.K.Keeper.told c.table_value.new.keeper)) c.in-Table.table (view c.in-Ok.value)) c.get-app.ensures c.in-Ok.ensures.value)

pub returns-in_ok-given_value-in_default-clause-value : goal.returns-in_ok-given_value-in_default-clause-value
returns-in_ok-given_value-in_default-clause-value g c =
    let w = c.args.self.now in
    other_given (view w.day.now) (grounds (g.A.SoundApp.app w.app.now) w.moment (g.K.Keeper.began w.keeper.now)) w.session.now w.cache.now.values.cells (drop w.earlier w.wrote.now.items) (g.K.Keeper.told w.keeper.now) c.args.source
    (view c.in_ok-given_value-in_default.field-0) (all_fit (g.A.SoundApp.app w.app.now) c.is_sound.ensures) w.fits w.order.fits w.today (λ k e. c.in_default.not-Table k e) c.requires
    (c.in_ok-given_value-in_default.ensures ∙ ap (λ (a : App). told_by (view w.day.now) a.names w.session.now (map view c.as_slice.result.now) c.args.source) c.get-app.ensures
    ∙ ap (λ (vs : List Data). told_by (view w.day.now) (g.A.SoundApp.app w.app.now).names w.session.now vs c.args.source) (c.as_slice.ensures ∙ ap (λ (v : CellValues). v.cells) c.values.ensures))

pub invariant_of-self-clause-right : goal.invariant_of-self-clause-right
invariant_of-self-clause-right g c =
    let w = c.args.self.now in
    right_stays (SilenceCause (g.K.Keeper.marks w.keeper.now) (g.K.Keeper.marks c.table_value.new.keeper)) (g.A.SoundApp.app w.app.now) w.session.now w.moment w.cache.now (g.K.Keeper.told w.keeper.now) (g.K.Keeper.told c.table_value.new.keeper) c.table_value.ensures.told w.right

pub invariant_of-self-clause-sound : goal.invariant_of-self-clause-sound
invariant_of-self-clause-sound g c =
    let w = c.args.self.now in
    sound_stays (SilenceCause (g.K.Keeper.marks w.keeper.now) (g.K.Keeper.marks c.table_value.new.keeper)) (g.A.SoundApp.app w.app.now).names.schema (g.K.Keeper.told w.keeper.now) (g.K.Keeper.told c.table_value.new.keeper) c.table_value.ensures.told w.sound
