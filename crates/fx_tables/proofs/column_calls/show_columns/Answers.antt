use Rattle.std.proofs.Common.{◌≡◌, List, subst, sym, true}
use Rattle.fx_types.specs.Values.{row_list}
use Rattle.fx_value.specs.Fits.{rows_fit}
use Rattle.fx_value.specs.Columns.{Row}
use Rattle.fx_core.specs.ColumnLists.{columns_only}
use Rattle.fx_tables.proofs.FitColumns.{rows_only_fit}
use Rattle.fx_tables.proofs.column_calls.show_columns.Goals as goal

pub returns-clause-fits : goal.returns-clause-fits
returns-clause-fits c = λ cs h.
    let P : List Row → Type 0 = λ rows. rows_fit (row_list rows) (columns_only c.args.names.now cs) ≡ true in
    subst P (sym c.in_ok-show_columns.ensures) (rows_only_fit c.args.names.now c.args.rows cs h)
