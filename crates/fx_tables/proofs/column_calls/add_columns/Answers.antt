use Rattle.std.proofs.Common.{◌≡◌, List, map, subst, sym, true}
use Rattle.fx_types.specs.Values.{row_list}
use Rattle.fx_value.specs.Fits.{rows_fit}
use Rattle.fx_value.specs.Columns.{Row}
use Rattle.fx_tables.specs.NewColumn.{column_seen}
use Rattle.fx_tables.proofs.FitColumns.{added_fit}
use Rattle.fx_tables.proofs.column_calls.add_columns.Goals as goal

pub returns-clause-fits : goal.returns-clause-fits
returns-clause-fits c = λ ts cs ds o h e.
    let P : List Row → Type 0 = λ rows. rows_fit (row_list rows) ds ≡ true in
    subst P (sym c.in_ok-rows_with.ensures) (added_fit (map column_seen c.args.columns.items) ts c.args.rows cs ds o c.requires h e)
