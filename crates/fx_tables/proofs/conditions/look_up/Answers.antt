use Rattle.std.proofs.Common.{◌≡◌, ◌∙◌, ap, map, subst, sym, List, true}
use Rattle.fx_types.specs.Types.{tables}
use Rattle.fx_types.specs.Values.{tab, row_list}
use Rattle.fx_types.specs.ValueView.{view}
use Rattle.fx_value.specs.Fits.{fits_in}
use Rattle.fx_value.specs.Columns.{Row}
use Rattle.fx_tables.specs.RowCalls.{first_row_record, kept_rows}
use Rattle.fx_tables.proofs.FirstErrors.{error_is, none_is}
use Rattle.fx_tables.proofs.FitRows.{kept_fit}
use Rattle.fx_tables.proofs.conditions.look_up.Goals as goal

pub returns-in_ok-keep_rows-in-Ok-clause-value : goal.returns-in_ok-keep_rows-in-Ok-clause-value
returns-in_ok-keep_rows-in-Ok-clause-value c =
    let vs = c.args.conditions.items in
    let made = c.in_ok-keep_rows-in-Ok.ensures ∙ ap (λ us. kept_rows c.args.rows (map view us)) c.in-Ok.ensures.0 in
    c.first.ensures.value ∙ ap first_row_record made ∙ none_is (map view vs) (first_row_record (kept_rows c.args.rows (map view vs))) c.in-Ok.ensures.1

pub returns-in_ok-keep_rows-in-Ok-clause-fits : goal.returns-in_ok-keep_rows-in-Ok-clause-fits
returns-in_ok-keep_rows-in-Ok-clause-fits c = λ cs h.
    let P : List Row → Type 0 = λ rs. fits_in (tab (row_list rs)) (tables cs) ≡ true in
    c.first.ensures.fits cs (subst P (sym c.in_ok-keep_rows-in-Ok.ensures) (kept_fit c.args.rows (map view c.in-Ok.conditions.items) (tables cs) h))

pub returns-in-Err-clause-value : goal.returns-in-Err-clause-value
returns-in-Err-clause-value c = error_is (map view c.args.conditions.items) (first_row_record (kept_rows c.args.rows (map view c.args.conditions.items))) _ c.in-Err.ensures
