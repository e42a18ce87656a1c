use Rattle.std.proofs.Common.{◌≡◌, ◌∙◌, ap, arith, false, map, sym}
use Rattle.std.specs.Prelude.{option_map}
use Rattle.app_semantics.specs.Fresh.{reads_table}
use Rattle.fx_types.specs.ValueView.{view}
use Rattle.recalc.proofs.CellVisits.{none_read}
use Rattle.recalc.specs.Reading.{cell_value}
use Rattle.row_keeper.specs.Tables.{rows_of_tables}
use Rattle.recalc.proofs.evaluating.formula_value.Goals as goal

pub returns-in_ok-value_alone-clause-visits : goal.returns-in_ok-value_alone-clause-visits
returns-in_ok-value_alone-clause-visits g c = λ moment today t told.
    let none : reads_table c.args.info.now.reads ≡ false = ap reads_table (sym c.as_slice.ensures) ∙ sym c.reads_table.ensures ∙ c.if-reads_table.false in (
      0,
      none_read c.args.app.now c.args.session.now (rows_of_tables t.states) moment (cell_value (map view c.args.values.now)) (option_map view c.args.item) c.args.info.now none,
      omega arith,
    )
