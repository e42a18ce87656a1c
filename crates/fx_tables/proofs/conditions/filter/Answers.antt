use Rattle.std.proofs.Common.{◌≡◌, ◌∙◌, ap, map, subst, sym, List, true}
use Rattle.fx_types.specs.Values.{tab, row_list}
use Rattle.fx_types.specs.ValueView.{view}
use Rattle.fx_value.specs.Fits.{fits_in}
use Rattle.fx_value.specs.Columns.{Row}
use Rattle.fx_tables.specs.RowCalls.{kept_rows}
use Rattle.fx_tables.proofs.FirstErrors.{error_is, none_is}
use Rattle.fx_tables.proofs.FitRows.{kept_fit}
use Rattle.fx_tables.proofs.conditions.filter.Goals as goal

pub returns-in_ok-keep_rows-in-Ok-clause-value : goal.returns-in_ok-keep_rows-in-Ok-clause-value
returns-in_ok-keep_rows-in-Ok-clause-value c =
    let vs = c.args.conditions.items in
    let made = c.in_ok-keep_rows-in-Ok.ensures ∙ ap (λ us. kept_rows c.args.rows (map view us)) c.in-Ok.ensures.0 in
    ap (λ rs. tab (row_list rs)) made ∙ none_is (map view vs) (tab (row_list (kept_rows c.args.rows (map view vs)))) c.in-Ok.ensures.1

pub returns-in_ok-keep_rows-in-Ok-clause-fits : goal.returns-in_ok-keep_rows-in-Ok-clause-fits
returns-in_ok-keep_rows-in-Ok-clause-fits c = λ t h.
    let P : List Row → Type 0 = λ rs. fits_in (tab (row_list rs)) t ≡ true in
    subst P (sym c.in_ok-keep_rows-in-Ok.ensures) (kept_fit c.args.rows (map view c.in-Ok.conditions.items) t h)

pub returns-in-Err-clause-value : goal.returns-in-Err-clause-value
returns-in-Err-clause-value c = error_is (map view c.args.conditions.items) (tab (row_list (kept_rows c.args.rows (map view c.args.conditions.items)))) _ c.in-Err.ensures
