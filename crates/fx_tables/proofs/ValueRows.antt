-- Values as the rows of one table.
use Rattle.std.proofs.Common.{◌≡◌, ℕ, List, [], ◌∷◌, ◌++◌, map, Bool, true, false, not, bytes_eq, Some, None, refl, ap, subst, ◌∙◌, cond}
use Rattle.std.specs.Prelude.{◌&&◌, codes}
use Rattle.std.specs.Str.{chars}
use Rattle.std.specs.List.{All, filter, find}
use Rattle.std.proofs.lemmas.List.Elements.{All-head, All-tail}
use Rattle.std.proofs.lemmas.Bool.{and_from}
use Rattle.fx_types.specs.Types.{Shape, blanks, numbers, texts, booleans, dates, records, tables, no_columns, column}
use Rattle.fx_types.specs.Values.{Data, number, text, boolean, date, rec, no_rows, row, no_fields, field, field_list, row_list}
use Rattle.fx_types.specs.ValueView.{view}
use Rattle.fx_types.specs.declared.values.Value.{Value}
use Rattle.fx_types.specs.declared.values.Value.TheVariants.{Text}
use Rattle.fx_value.specs.Fits.{fits_in, fields_fit, rows_fit}
use Rattle.fx_value.proofs.Widenings.{own_name}
use Rattle.fx_tables.specs.AggregateCalls.{characters_in}
use Rattle.fx_tables.specs.RowCalls.{CanBeRowType, is_blank, rows_by_values}
use Rattle.fx_value.specs.Columns.{Row}
use Rattle.fx_tables.specs.Distinct.{value_name}
use Rattle.fx_tables.specs.Unions.{fields_in, is_fault}
use Rattle.fx_core.specs.ColumnLists.{row_columns, value_column}

-- one more row
rows_push : (ws : List Row) (ds : List Value) (w : Row) (v : Value) → row_list ws ≡ rows_by_values (map view ds) → field_list w ≡ fields_in (view v) → row_list (ws ++ w ∷ []) ≡ rows_by_values (map view (ds ++ v ∷ []))
rows_push [] [] w v h e = ap (λ z. row z no_rows) e
rows_push [] (d ∷ ds) w v h e = cc
rows_push (x ∷ ws) [] w v h e = cc
rows_push (x ∷ ws) (d ∷ ds) w v h e =
    let a : field_list x ≡ fields_in (view d) = cc in
    let b : row_list ws ≡ rows_by_values (map view ds) = cc in
    λ i. row (a i) (rows_push ws ds w v b e i)

pub step_rows : (ws : List Row) (ds : List Value) (w : Row) (wider : List Row) (v : Value) → wider ≡ ws ++ w ∷ [] → row_list ws ≡ rows_by_values (map view ds) → field_list w ≡ fields_in (view v) → row_list wider ≡ rows_by_values (map view (ds ++ v ∷ []))
step_rows ws ds w wider v p h e = ap row_list p ∙ rows_push ws ds w v h e

-- the name of the column of scalars is the bytes of its name
value_name_is : value_name ≡ codes "Value"
unfolding chars
value_name_is = refl

-- a scalar fits the column `Value` of its type
pub scalar_fits : (d : Data) (t : Shape) → fits_in d t ≡ true → fields_fit (field value_name d no_fields) (value_column t) ≡ true
scalar_fits d t h =
    let P : List ℕ → Type 0 = λ n. fields_fit (field value_name d no_fields) (column n t no_columns) ≡ true in
    subst P value_name_is (and_from (bytes_eq value_name value_name) (fits_in d t && true) (own_name value_name) (and_from (fits_in d t) true h refl))

-- a value that is neither blank nor an error fits the columns of its type as a row
value_fits : (t : Shape) (d : Data) → CanBeRowType t → fits_in d t ≡ true → is_blank d ≡ false → is_fault d ≡ false → fields_fit (fields_in d) (row_columns t) ≡ true
value_fits blanks (number z) c h b e = cc
value_fits blanks d c h b e = cc
value_fits numbers (number z) c h b e = scalar_fits (number z) numbers h
value_fits numbers d c h b e = cc
value_fits texts (text cs) c h b e = scalar_fits (text cs) texts h
value_fits texts d c h b e = cc
value_fits booleans (boolean a) c h b e = scalar_fits (boolean a) booleans h
value_fits booleans d c h b e = cc
value_fits dates (date z) c h b e = scalar_fits (date z) dates h
value_fits dates d c h b e = cc
value_fits (records cs) (rec fs) c h b e = h
value_fits (records cs) d c h b e = cc
value_fits (tables cs) d c h b e = absurd c

-- values without an error: the first is none, and there is none among the rest
first_clear : (d : Data) (ds : List Data) → find is_fault (d ∷ ds) ≡ None → is_fault d ≡ false
first_clear d ds h = by (is_fault d) h
  where
    by : (b : Bool) → cond b (Some d) (find is_fault ds) ≡ None → b ≡ false
    by true k = cc
    by false k = refl

rest_clear : (d : Data) (ds : List Data) → find is_fault (d ∷ ds) ≡ None → find is_fault ds ≡ None
rest_clear d ds h = by (is_fault d) h
  where
    by : (b : Bool) → cond b (Some d) (find is_fault ds) ≡ None → find is_fault ds ≡ None
    by true k = cc
    by false k = k

-- the values that aren't blank fit as rows
pub values_fit : (t : Shape) (ds : List Data) → CanBeRowType t → All (λ d. fits_in d t ≡ true) ds → find is_fault ds ≡ None → rows_fit (rows_by_values (filter (λ d. not (is_blank d)) ds)) (row_columns t) ≡ true
values_fit t [] c h f = refl
values_fit t (d ∷ ds) c h f =
    by (is_blank d) (λ b. value_fits t d c (All-head (λ e. fits_in e t ≡ true) d ds h) b (first_clear d ds f))
    (values_fit t ds c (All-tail (λ e. fits_in e t ≡ true) d ds h) (rest_clear d ds f))
  where
    by : (b : Bool) → (b ≡ false → fields_fit (fields_in d) (row_columns t) ≡ true) → rows_fit (rows_by_values (filter (λ e. not (is_blank e)) ds)) (row_columns t) ≡ true → rows_fit (rows_by_values (cond (not b) (d ∷ filter (λ e. not (is_blank e)) ds) (filter (λ e. not (is_blank e)) ds))) (row_columns t) ≡ true
    by true first rest = rest
    by false first rest = and_from (fields_fit (fields_in d) (row_columns t)) (rows_fit (rows_by_values (filter (λ e. not (is_blank e)) ds)) (row_columns t)) (first refl) rest

-- what is no text has no characters
pub no_characters : (v : Value) → ((cs : List ℕ) → v ≡ Text cs → ⊥) → characters_in (view v) ≡ []
no_characters (Text cs) h = absurd (h cs refl)
no_characters v h = refl
