use Rattle.std.proofs.Common.{map, refl}
use Rattle.fx_types.specs.ValueView.{view}
use Rattle.recalc.specs.Reading.{told_by}
use Rattle.recalc.proofs.RowTellings.{keeps_tables}
use Rattle.recalc.proofs.row_reading.RowReadingEnv.tables.Goals as goal

pub returns : goal.returns
returns g c =
    let r = c.args.self.now in
    (refl, keeps_tables (view r.today.now) r.names.now r.session.now (map view r.values.now) r.reads.now (told_by (view r.today.now) r.names.now r.session.now (map view r.values.now)) r.limit _ _ (g.K.Keeper.began r.keeper.now) (g.K.Keeper.told r.keeper.now) r.lawful)
