use Rattle.std.proofs.Common.{◌≡◌, ◌-◌, List, length, subst, sym, true}
use Rattle.fx_types.specs.Values.{tab, row_list}
use Rattle.fx_value.specs.Fits.{fits_in}
use Rattle.fx_value.specs.Columns.{Row}
use Rattle.fx_tables.proofs.FitRows.{last_rows_fit}
use Rattle.fx_tables.proofs.ends.last_n.Goals as goal

pub returns-in_default-clause-fits : goal.returns-in_default-clause-fits
returns-in_default-clause-fits c = λ t h.
    let P : List Row → Type 0 = λ rs. fits_in (tab (row_list rs)) t ≡ true in
    subst P (sym c.last_rows_of.ensures) (last_rows_fit c.args.rows (length c.args.rows - c.asked_count.result) t h)
