use Rattle.std.proofs.Common.{List, arith, ◌∙◌, subst, sym, true, ◌≡◌}
use Rattle.fx_tables.proofs.ColumnTurns.{step_without}
use Rattle.std.proofs.lemmas.List.{at_drop_all}
use Rattle.fx_types.specs.Values.{row_list}
use Rattle.fx_value.specs.Fits.{rows_fit}
use Rattle.fx_value.specs.Columns.{Row}
use Rattle.fx_value.proofs.Unions.{rises_list}
use Rattle.fx_types.specs.Types.{column_list}
use Rattle.fx_tables.specs.ColumnCalls.{without_columns}
use Rattle.fx_tables.proofs.FitColumns.{dropped_fit}
use Rattle.fx_core.specs.ColumnLists.{without_all}
use Rattle.fx_tables.proofs.column_calls.drop_columns.Goals as goal

pub loop-name-preserved : goal.loop-name-preserved
loop-name-preserved c =
    step_without c.args.names.now c.loop-name.name-index c.name-item.result _ c.loop-name.narrower c.in_ok-narrower.narrower _ (omega arith) c.name-item.is c.as_str.ensures.scalars c.in_ok-narrower.ensures c.loop-name.invariant

pub returns-clause-fits : goal.returns-clause-fits
returns-clause-fits c = λ cs rising h.
    let value : c.loop-name.narrower ≡ without_columns c.args.names.now c.args.rows = sym (at_drop_all (λ ns. without_columns ns c.loop-name.narrower) c.args.names.now c.loop-name.name-index (omega arith)) ∙ c.loop-name.invariant in
    let P : List Row → Type 0 = λ rows. rows_fit (row_list rows) (without_all c.args.names.now (column_list cs)) ≡ true in
    subst P (sym value) (dropped_fit c.args.names.now c.args.rows (column_list cs) (rises_list cs rising) h)
