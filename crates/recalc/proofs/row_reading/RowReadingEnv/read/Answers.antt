use Rattle.std.proofs.Common.{map}
use Rattle.fx_types.specs.ValueView.{view}
use Rattle.recalc.specs.Reading.{told_by}
use Rattle.recalc.proofs.RowTellings.{other_given, over_held, table_given}
use Rattle.recalc.proofs.row_reading.RowReadingEnv.read.Goals as goal

pub given_value-requires : goal.given_value-requires
given_value-requires g c =
    let r = c.args.self.now in
    record {
      held = λ o. over_held r.names.now r.session.now r.reads.now (told_by (view r.today.now) r.names.now r.session.now (map view r.values.now)) c.args.source r.holds c.requires o;
      no_table = λ k e. c.in_default.not-Table k e;
    }

pub returns-in-Ok-clause-value : goal.returns-in-Ok-clause-value
returns-in-Ok-clause-value g c =
    let r = c.args.self.now in
    table_given c.rows_fit.ensures (view r.today.now) r.names.now r.session.now (map view r.values.now) r.reads.now (told_by (view r.today.now) r.names.now r.session.now (map view r.values.now)) (g.K.Keeper.began c.table_value.new.keeper) (g.K.Keeper.told c.table_value.new.keeper) c.in-Table.table c.args.source (view c.in-Ok.value)
    r.lawful c.in-Table.is c.in-Ok.ensures.value

pub returns-in_ok-given_value-in_default-clause-value : goal.returns-in_ok-given_value-in_default-clause-value
returns-in_ok-given_value-in_default-clause-value g c =
    let r = c.args.self.now in
    other_given (view r.today.now) r.names.now r.session.now (map view r.values.now) r.reads.now (g.K.Keeper.began r.keeper.now) (g.K.Keeper.told r.keeper.now) c.args.source (view c.in_ok-given_value-in_default.field-0)
    (λ k e. c.in_default.not-Table k e) c.requires c.in_ok-given_value-in_default.ensures
