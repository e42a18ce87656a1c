use Rattle.std.proofs.Common.{◌≡◌, ◌∙◌, ap, map, not, subst, sym, true}
use Rattle.std.specs.List.{filter}
use Rattle.fx_types.specs.Values.{RowList, tab}
use Rattle.fx_types.specs.ValueView.{view}
use Rattle.fx_value.specs.Fits.{rows_fit}
use Rattle.fx_tables.specs.RowCalls.{is_blank, rows_by_values}
use Rattle.fx_core.specs.ColumnLists.{row_columns}
use Rattle.fx_tables.proofs.FirstErrors.{error_is, none_is}
use Rattle.fx_tables.proofs.ValueRows.{values_fit}
use Rattle.fx_tables.proofs.formulas.for_all.Goals as goal

pub returns-in_ok-rows_by_values-in-Ok-clause-value : goal.returns-in_ok-rows_by_values-in-Ok-clause-value
returns-in_ok-rows_by_values-in-Ok-clause-value c =
    let ds = map view c.args.values.items in
    let made = c.in_ok-rows_by_values-in-Ok.ensures ∙ ap rows_by_values (c.without_blanks.ensures ∙ ap (λ us. filter (λ d. not (is_blank d)) (map view us)) c.in-Ok.ensures.0) in
    ap tab made ∙ none_is ds (tab (rows_by_values (filter (λ d. not (is_blank d)) ds))) c.in-Ok.ensures.1

pub returns-in_ok-rows_by_values-in-Ok-clause-fits : goal.returns-in_ok-rows_by_values-in-Ok-clause-fits
returns-in_ok-rows_by_values-in-Ok-clause-fits c = λ t can h.
    let made = c.in_ok-rows_by_values-in-Ok.ensures ∙ ap rows_by_values (c.without_blanks.ensures ∙ ap (λ us. filter (λ d. not (is_blank d)) (map view us)) c.in-Ok.ensures.0) in
    let P : RowList → Type 0 = λ rs. rows_fit rs (row_columns t) ≡ true in
    subst P (sym made) (values_fit t (map view c.args.values.items) can h c.in-Ok.ensures.1)

pub returns-in-Err-clause-value : goal.returns-in-Err-clause-value
returns-in-Err-clause-value c =
    let ds = map view c.args.values.items in
    error_is ds (tab (rows_by_values (filter (λ d. not (is_blank d)) ds))) _ c.in-Err.ensures
