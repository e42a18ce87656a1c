-- Coercions and lists give values that fit.
use Rattle.std.proofs.Common.{◌≡◌, ℕ, List, [], ◌∷◌, Bool, true, false, Option, Some, None, refl, ap, subst}
use Rattle.std.specs.Prelude.{bytes_eq, codes, encode_utf8_all, if◌then◌else◌}
use Rattle.std.specs.List.{find}
use Rattle.std.proofs.lemmas.Bool.{and_from}
use Rattle.fx_types.specs.Types.{Shape, blanks, numbers, texts, booleans, dates, records, tables, ColumnList, no_columns, column}
use Rattle.fx_types.specs.Values.{Data, blank, number, text, boolean, date, rec, tab, fault, no_fields, field}
use Rattle.fx_tables.specs.RowCalls.{CanBeRowType}
use Rattle.fx_tables.specs.Distinct.{value_name}
use Rattle.fx_tables.specs.Unions.{fields_in, is_fault, values_as_rows, union_of}
use Rattle.fx_core.specs.ColumnLists.{row_columns, value_column}
use Rattle.fx_typing.specs.Ways.{way, widening, joined_way, same_shape, changed, refused, same}
use Rattle.fx_typing.specs.WellTyped.{AreAllOfShape}
use Rattle.fx_typing.proofs.Same.{shape_same}
use Rattle.fx_value.specs.Coercion.{IsCoerced, IsReadAs, widened, widened_fields}
use Rattle.fx_value.specs.Fits.{fits_in, fields_fit, rows_fit}
use Rattle.fx_value.specs.Join.{join_of}
use Rattle.fx_semantics.specs.Sound.{AreFit, IsLawfulType}
use Rattle.fx_semantics.proofs.Fields.{all_fit, fault_or_fits}
use Rattle.fx_semantics.proofs.Forms.{given_fits}
use Rattle.fx_semantics.proofs.Tables.{AllFit}
use Rattle.fx_semantics.proofs.Widened.{FieldsCome, fields_widened_fit, join_comes, same_comes, widened_fits}

read_fits : (bs : List ℕ) (w : Data) → IsReadAs bs w → fits_in w numbers ≡ true
read_fits bs blank h = refl
read_fits bs (number z) h = refl
read_fits bs (fault k cs) h = refl
read_fits bs (text x) h = absurd h
read_fits bs (boolean b) h = absurd h
read_fits bs (date z) h = absurd h
read_fits bs (rec fs) h = absurd h
read_fits bs (tab rs) h = absurd h

-- to Blank
pub to_blank_fits : (d w : Data) → IsCoerced d blanks w → fits_in w blanks ≡ true
to_blank_fits blank w h = given_fits w blank blanks refl h
to_blank_fits (fault k cs) w h = given_fits w (fault k cs) blanks refl h
to_blank_fits (number z) w h = given_fits w blank blanks refl h
to_blank_fits (text x) w h = given_fits w blank blanks refl h
to_blank_fits (boolean b) w h = given_fits w blank blanks refl h
to_blank_fits (date z) w h = given_fits w blank blanks refl h
to_blank_fits (rec fs) w h = given_fits w blank blanks refl h
to_blank_fits (tab rs) w h = given_fits w blank blanks refl h

join_by : (o : Option Shape) (t : Shape) → joined_way o t ≡ changed → o ≡ Some t
join_by None t e = absurd cc
join_by (Some u) t e = by (same_shape u t) refl e
  where
    by : (b : Bool) → same_shape u t ≡ b → (if b then changed else refused) ≡ changed → Some u ≡ Some t
    by true i q = ap Some (shape_same u t i)
    by false i q = absurd cc

widening_joins : (s t : Shape) → widening s t ≡ changed → join_of s t ≡ Some t
widening_joins s t e = by (same_shape s t) e
  where
    by : (b : Bool) → (if b then same else joined_way (join_of s t) t) ≡ changed → join_of s t ≡ Some t
    by true q = absurd cc
    by false q = join_by (join_of s t) t q

-- to another type, by the table of coercions
pub coerced_fits : (d : Data) (u to : Shape) (w : Data) → IsLawfulType to → way u to ≡ changed → fits_in d u ≡ true → IsCoerced d to w → fits_in w to ≡ true
coerced_fits blank u to w l e f h = given_fits w blank to refl h
coerced_fits (fault k cs) u to w l e f h = given_fits w (fault k cs) to refl h
coerced_fits (number z) numbers texts w l e f h = given_fits w _ texts refl h
coerced_fits (number z) numbers booleans w l e f h = given_fits w _ booleans refl h
coerced_fits (boolean b) booleans texts w l e f h = given_fits w _ texts refl h
coerced_fits (boolean b) booleans numbers w l e f h = given_fits w _ numbers refl h
coerced_fits (date z) dates texts w l e f h = given_fits w _ texts refl h
coerced_fits (text x) texts numbers w l e f h = read_fits (encode_utf8_all x) w h
coerced_fits (rec fs) (records cs) (records ds) w l e f h =
    let j = widening_joins (records cs) (records ds) e in
    given_fits w (widened (rec fs) (records ds)) (records ds)
    (widened_fits (rec fs) (records ds) (join_comes (rec fs) (records cs) (records ds) l f j)) h
coerced_fits (tab rs) (tables cs) (tables ds) w l e f h =
    let j = widening_joins (tables cs) (tables ds) e in
    given_fits w (widened (tab rs) (tables ds)) (tables ds)
    (widened_fits (tab rs) (tables ds) (join_comes (tab rs) (tables cs) (tables ds) l f j)) h
coerced_fits d u to w l e f h = cc

-- ---- lists
blanks_come : (cs : ColumnList) → FieldsCome no_fields cs
blanks_come no_columns = tt
blanks_come (column n t cs) = (refl, blanks_come cs)

scalar_row : (d : Data) (t : Shape) → fits_in (widened d t) t ≡ true → fields_fit (widened_fields (field value_name d no_fields) (value_column t)) (value_column t) ≡ true
scalar_row d t f = all_fit (codes "Value") _ t no_fields no_columns (by (bytes_eq value_name (codes "Value"))) refl
  where
    by : (b : Bool) → fits_in (widened (if b then d else blank) t) t ≡ true
    by true = f
    by false = refl

blank_row : (t : Shape) → fields_fit (widened_fields no_fields (value_column t)) (value_column t) ≡ true
blank_row t = all_fit (codes "Value") blank t no_fields no_columns refl refl

row_fits : (r : Shape) (d : Data) → IsLawfulType r → CanBeRowType r → fits_in d r ≡ true → is_fault d ≡ false → fields_fit (widened_fields (fields_in d) (row_columns r)) (row_columns r) ≡ true
row_fits (tables cs) d l n f e = absurd n
row_fits (records cs) (rec fs) l n f e = fields_widened_fit fs cs (same_comes (rec fs) (records cs) l f)
row_fits (records cs) blank l n f e = fields_widened_fit no_fields cs (blanks_come cs)
row_fits blanks blank l n f e = blank_row blanks
row_fits numbers blank l n f e = blank_row numbers
row_fits texts blank l n f e = blank_row texts
row_fits booleans blank l n f e = blank_row booleans
row_fits dates blank l n f e = blank_row dates
row_fits numbers (number z) l n f e = scalar_row (number z) numbers refl
row_fits texts (text x) l n f e = scalar_row (text x) texts refl
row_fits booleans (boolean b) l n f e = scalar_row (boolean b) booleans refl
row_fits dates (date z) l n f e = scalar_row (date z) dates refl
row_fits r d l n f e = cc

list_rows_fit : (r : Shape) → IsLawfulType r → CanBeRowType r → (ds : List Data) → AllFit r ds → find is_fault ds ≡ None → rows_fit (values_as_rows (row_columns r) ds) (row_columns r) ≡ true
list_rows_fit r l n [] h e = refl
list_rows_fit r l n (fault k cs ∷ ds) h e = cc
list_rows_fit r l n (blank ∷ ds) h e = and_from _ _ (row_fits r blank l n h.0 refl) (list_rows_fit r l n ds h.1 e)
list_rows_fit r l n (number z ∷ ds) h e = and_from _ _ (row_fits r (number z) l n h.0 refl) (list_rows_fit r l n ds h.1 e)
list_rows_fit r l n (text x ∷ ds) h e = and_from _ _ (row_fits r (text x) l n h.0 refl) (list_rows_fit r l n ds h.1 e)
list_rows_fit r l n (boolean b ∷ ds) h e = and_from _ _ (row_fits r (boolean b) l n h.0 refl) (list_rows_fit r l n ds h.1 e)
list_rows_fit r l n (date z ∷ ds) h e = and_from _ _ (row_fits r (date z) l n h.0 refl) (list_rows_fit r l n ds h.1 e)
list_rows_fit r l n (rec fs ∷ ds) h e = and_from _ _ (row_fits r (rec fs) l n h.0 refl) (list_rows_fit r l n ds h.1 e)
list_rows_fit r l n (tab rs ∷ ds) h e = and_from _ _ (row_fits r (tab rs) l n h.0 refl) (list_rows_fit r l n ds h.1 e)

pub list_fits : (r : Shape) → IsLawfulType r → CanBeRowType r → (ds : List Data) → AllFit r ds → fits_in (union_of (tables (row_columns r)) ds) (tables (row_columns r)) ≡ true
list_fits r l n ds h = fault_or_fits ds (tab (values_as_rows (row_columns r) ds)) (tables (row_columns r)) (list_rows_fit r l n ds h)

-- values of one type
pub all_of_one : (r : Shape) (ds : List Data) (us : List Shape) → AreAllOfShape r us → AreFit ds us → AllFit r ds
all_of_one r [] [] a f = tt
all_of_one r (d ∷ ds) (u ∷ us) a f = let P : Shape → Type 0 = λ z. fits_in d z ≡ true in (subst P a.0 f.0, all_of_one r ds us a.1 f.1)
all_of_one r [] (u ∷ us) a f = absurd f
all_of_one r (d ∷ ds) [] a f = absurd f
