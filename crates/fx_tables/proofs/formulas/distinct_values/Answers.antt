use Rattle.std.proofs.Common.{◌≡◌, ◌∙◌, ap, map, subst, sym, List, true}
use Rattle.fx_types.specs.Types.{tables}
use Rattle.fx_types.specs.Values.{tab, row_list}
use Rattle.fx_types.specs.ValueView.{view}
use Rattle.fx_types.specs.declared.values.Value.{Value}
use Rattle.fx_value.specs.Fits.{fits_in}
use Rattle.fx_value.specs.Columns.{Row}
use Rattle.fx_tables.specs.Distinct.{distinct_of, value_row}
use Rattle.fx_value.specs.Ordered.{AreKeys}
use Rattle.fx_core.specs.ColumnLists.{value_column}
use Rattle.fx_tables.proofs.FirstErrors.{error_is, none_is}
use Rattle.fx_tables.proofs.FitDistinct.{distinct_fit}
use Rattle.fx_tables.proofs.formulas.distinct_values.Goals as goal

pub distinct-requires : goal.distinct-requires
distinct-requires c =
    let P : List Value → Type 0 = λ vs. AreKeys (map view vs) in
    subst P (sym (c.as_slice.ensures.value ∙ c.in-Ok.ensures.0)) (c.requires c.in-Ok.ensures.1)

pub returns-in_ok-distinct-in-Ok-clause-value : goal.returns-in_ok-distinct-in-Ok-clause-value
returns-in_ok-distinct-in-Ok-clause-value c =
    let vs = c.args.values.items in
    let same = c.as_slice.ensures.value ∙ c.in-Ok.ensures.0 in
    let made = c.in_ok-distinct-in-Ok.ensures ∙ ap (λ us. map value_row (distinct_of (map view us))) same in
    ap (λ rs. tab (row_list rs)) made ∙ none_is (map view vs) (tab (row_list (map value_row (distinct_of (map view vs))))) c.in-Ok.ensures.1

pub returns-in_ok-distinct-in-Ok-clause-fits : goal.returns-in_ok-distinct-in-Ok-clause-fits
returns-in_ok-distinct-in-Ok-clause-fits c = λ t h.
    let vs = c.args.values.items in
    let same = c.as_slice.ensures.value ∙ c.in-Ok.ensures.0 in
    let made = c.in_ok-distinct-in-Ok.ensures ∙ ap (λ us. map value_row (distinct_of (map view us))) same in
    let P : List Row → Type 0 = λ rs. fits_in (tab (row_list rs)) (tables (value_column t)) ≡ true in
    subst P (sym made) (distinct_fit t (map view vs) h)

pub returns-in-Err-clause-value : goal.returns-in-Err-clause-value
returns-in-Err-clause-value c = error_is (map view c.args.values.items) (tab (row_list (map value_row (distinct_of (map view c.args.values.items))))) _ c.in-Err.ensures
