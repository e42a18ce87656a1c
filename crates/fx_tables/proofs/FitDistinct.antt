-- Distinct values fit the column that all values fit.
use Rattle.std.proofs.Common.{◌≡◌, List, [], ◌∷◌, map, true, not, refl}
use Rattle.std.specs.List.{All, filter}
use Rattle.std.specs.Ordering.{is_eq}
use Rattle.std.proofs.lemmas.List.Elements.{All-cons, All-head, All-tail, All-filter}
use Rattle.std.proofs.lemmas.Bool.{and_from}
use Rattle.fx_types.specs.Types.{Shape, tables}
use Rattle.fx_types.specs.Values.{Data, tab, field, no_fields, row_list}
use Rattle.fx_value.specs.Order.{order}
use Rattle.fx_value.specs.Fits.{fits_in, fields_fit, rows_fit}
use Rattle.fx_tables.specs.Distinct.{distinct_of, value_name, value_row}
use Rattle.fx_core.specs.ColumnLists.{value_column}
use Rattle.fx_tables.proofs.ValueRows.{scalar_fits}

distinct_all : (P : Data → Type 0) (ds : List Data) → All P ds → All P (distinct_of ds)
distinct_all P [] h = h
distinct_all P (d ∷ ds) h =
    All-cons P d (filter (λ e. not (is_eq (order d e))) (distinct_of ds)) (All-head P d ds h)
    (All-filter (λ e. not (is_eq (order d e))) P (distinct_of ds) (distinct_all P ds (All-tail P d ds h)))

values_fit : (t : Shape) (ds : List Data) → All (λ d. fits_in d t ≡ true) ds → rows_fit (row_list (map value_row ds)) (value_column t) ≡ true
values_fit t [] h = refl
values_fit t (d ∷ ds) h =
    and_from (fields_fit (field value_name d no_fields) (value_column t)) (rows_fit (row_list (map value_row ds)) (value_column t))
    (scalar_fits d t (All-head (λ e. fits_in e t ≡ true) d ds h))
    (values_fit t ds (All-tail (λ e. fits_in e t ≡ true) d ds h))

pub distinct_fit : (t : Shape) (ds : List Data) → All (λ d. fits_in d t ≡ true) ds → fits_in (tab (row_list (map value_row (distinct_of ds)))) (tables (value_column t)) ≡ true
distinct_fit t ds h = values_fit t (distinct_of ds) (distinct_all (λ d. fits_in d t ≡ true) ds h)
