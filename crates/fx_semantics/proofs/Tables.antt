-- Rows that fit, and what is made of them.
use Rattle.std.proofs.Common.{◌≡◌, ℕ, ℤ, List, [], ◌∷◌, ◌++◌, length, map, take, drop, Bool, true, Option, Some, None, Result, Ok, Err, refl, ap, sym, subst}
use Rattle.std.specs.Prelude.{◌-◌, reverse}
use Rattle.std.specs.List.{All}
use Rattle.std.proofs.lemmas.List.{reverse-append}
use Rattle.std.proofs.lemmas.List.Elements.{All-nil, All-cons}
use Rattle.std.proofs.lemmas.Bool.{and_from}
use Rattle.fx_types.specs.declared.faults.Fault.{Fault}
use Rattle.fx_types.specs.declared.faults.Kind.{Kind}
use Rattle.fx_types.specs.Types.{Shape, numbers, texts, records, tables, ColumnList}
use Rattle.fx_types.specs.Values.{Data, blank, number, text, boolean, date, rec, tab, fault, FieldList, no_fields, field, RowList, no_rows, row, field_list, row_list}
use Rattle.fx_types.proofs.Utf8Order.{and_second, and_first}
use Rattle.fx_tables.specs.AggregateCalls.{IsNumberOrBlank, IsSumValue, number_or_blank, averaged, made_value, concatenated, concatenated_by}
use Rattle.fx_tables.specs.Ends.{count_asked, first_rows, last_of, last_rows, unless_error}
use Rattle.fx_tables.specs.RowCalls.{CanBeRowType, IsFirstErrorOr, IsCountValue, IsTableBy, IsSortOf, distinct_or, filtered, first_row_record, for_all_of, kept_rows, looked_up}
use Rattle.fx_tables.proofs.FitRows.{first_rows_fit, kept_fit, last_rows_fit, ordered_fit, RowFits}
use Rattle.fx_tables.proofs.FitDistinct.{distinct_fit}
use Rattle.fx_tables.proofs.ValueRows.{values_fit as by_values_fit}
use Rattle.fx_value.specs.Columns.{Row}
use Rattle.fx_tables.specs.Distinct.{distinct_of, value_row}
use Rattle.fx_core.specs.ColumnLists.{row_columns, value_column}
use Rattle.fx_typing.specs.WellTyped.{Context}
use Rattle.fx_value.specs.Fits.{fits_in, fields_fit, rows_fit}
use Rattle.fx_semantics.specs.Around.{Meaning, AreEach, record_of}
use Rattle.fx_semantics.specs.Rows.{fields_of, rows_of, rows_in, table_of, IsOfFound}
use Rattle.fx_semantics.proofs.Fields.{fault_or_fits}
use Rattle.fx_semantics.proofs.Forms.{given_fits}
use Rattle.fx_semantics.proofs.Parts.{Giving, stands, Suits, Holds, inside_suits}

abbrev pub RowsFit : ColumnList → List Row → Type 0
RowsFit cs [] = Unit {0}
RowsFit cs (r ∷ rs) = RowFits cs r × RowsFit cs rs

fields_back : (fs : FieldList) → field_list (fields_of fs) ≡ fs
fields_back no_fields = refl
fields_back (field n d fs) = ap (field n d) (fields_back fs)

listed_fit : (rs : RowList) (cs : ColumnList) → rows_fit rs cs ≡ true → RowsFit cs (rows_of rs)
listed_fit no_rows cs h = tt
listed_fit (row fs rs) cs h =
    let P : FieldList → Type 0 = λ z. fields_fit z cs ≡ true in
    (subst P (sym (fields_back fs)) (and_first (fields_fit fs cs) (rows_fit rs cs) h), listed_fit rs cs (and_second (fields_fit fs cs) (rows_fit rs cs) h))

-- the rows of what fits a table's type
pub rows_in_fit : (d : Data) (cs : ColumnList) → fits_in d (tables cs) ≡ true → RowsFit cs (rows_in d)
rows_in_fit (tab rs) cs h = listed_fit rs cs h
rows_in_fit blank cs h = tt
rows_in_fit (number z) cs h = tt
rows_in_fit (text x) cs h = tt
rows_in_fit (boolean b) cs h = tt
rows_in_fit (date z) cs h = tt
rows_in_fit (rec fs) cs h = tt
rows_in_fit (fault k m) cs h = tt

pub table_fits : (cs : ColumnList) (rows : List Row) → RowsFit cs rows → fits_in (table_of rows) (tables cs) ≡ true
table_fits cs [] h = refl
table_fits cs (r ∷ rs) h = and_from (fields_fit (field_list r) cs) (rows_fit (row_list rs) cs) h.0 (table_fits cs rs h.1)

pub fit_table : (cs : ColumnList) (rows : List Row) → fits_in (table_of rows) (tables cs) ≡ true → RowsFit cs rows
fit_table cs [] h = tt
fit_table cs (r ∷ rs) h = (and_first (fields_fit (field_list r) cs) (rows_fit (row_list rs) cs) h, fit_table cs rs (and_second (fields_fit (field_list r) cs) (rows_fit (row_list rs) cs) h))

-- rows turned round
one_more : (cs : ColumnList) (rows : List Row) (r : Row) → RowsFit cs rows → RowFits cs r → RowsFit cs (rows ++ r ∷ [])
one_more cs [] r h f = (f, tt)
one_more cs (x ∷ xs) r h f = (h.0, one_more cs xs r h.1 f)

turned_fit : (cs : ColumnList) (rows : List Row) → RowsFit cs rows → RowsFit cs (reverse rows)
turned_fit cs [] h = h
turned_fit cs (r ∷ rs) h = subst (RowsFit cs) (sym (reverse-append (r ∷ []) rs)) (one_more cs (reverse rs) r (turned_fit cs rs h.1) h.0)

-- so many rows, where no error stands for the number
unless_fits : (count : Option Data) (rows : List Row) (t : Shape) → fits_in (table_of rows) t ≡ true → fits_in (unless_error count rows) t ≡ true
unless_fits (Some (fault k cs)) rows t h = refl
unless_fits count rows t h = h

pub first_some_fit : (cs : ColumnList) (rows : List Row) → RowsFit cs rows → (count : Option Data) → fits_in (first_rows rows count) (tables cs) ≡ true
first_some_fit cs rows h count = unless_fits count (take (count_asked count) rows) (tables cs) (first_rows_fit rows (count_asked count) (tables cs) (table_fits cs rows h))

pub last_some_fit : (cs : ColumnList) (rows : List Row) → RowsFit cs rows → (count : Option Data) → fits_in (last_rows rows count) (tables cs) ≡ true
last_some_fit cs rows h count =
    unless_fits count (drop (length rows - count_asked count) rows) (tables cs) (last_rows_fit rows (length rows - count_asked count) (tables cs) (table_fits cs rows h))

pub first_fits : (cs : ColumnList) (rows : List Row) → RowsFit cs rows → fits_in (first_row_record rows) (records cs) ≡ true
first_fits cs [] h = refl
first_fits cs (r ∷ rs) h = h.0

pub last_fits : (cs : ColumnList) (rows : List Row) → RowsFit cs rows → fits_in (last_of rows) (records cs) ≡ true
last_fits cs rows h = first_fits cs (reverse rows) (turned_fit cs rows h)

pub kept_rows_fit : (cs : ColumnList) (rows : List Row) (ds : List Data) → RowsFit cs rows → RowsFit cs (kept_rows rows ds)
kept_rows_fit cs rows ds h = fit_table cs (kept_rows rows ds) (kept_fit rows ds (tables cs) (table_fits cs rows h))

-- the first error of values, or what P holds of
pub first_error_fits : (ds : List Data) (P : Data → Type 0) (v : Data) (t : Shape) → (P v → fits_in v t ≡ true) → IsFirstErrorOr ds P v → fits_in v t ≡ true
first_error_fits [] P v t f h = f h
first_error_fits (fault k cs ∷ ds) P v t f h = given_fits v (fault k cs) t refl h
first_error_fits (blank ∷ ds) P v t f h = first_error_fits ds P v t f h
first_error_fits (number z ∷ ds) P v t f h = first_error_fits ds P v t f h
first_error_fits (text cs ∷ ds) P v t f h = first_error_fits ds P v t f h
first_error_fits (boolean b ∷ ds) P v t f h = first_error_fits ds P v t f h
first_error_fits (date z ∷ ds) P v t f h = first_error_fits ds P v t f h
first_error_fits (rec fs ∷ ds) P v t f h = first_error_fits ds P v t f h
first_error_fits (tab rs ∷ ds) P v t f h = first_error_fits ds P v t f h

-- ---- the calls
pub filtered_fits : (cs : ColumnList) (rows : List Row) (ds : List Data) → RowsFit cs rows → fits_in (filtered rows ds) (tables cs) ≡ true
filtered_fits cs rows ds h = fault_or_fits ds (tab (row_list (kept_rows rows ds))) (tables cs) (λ e. table_fits cs (kept_rows rows ds) (kept_rows_fit cs rows ds h))

pub looked_up_fits : (cs : ColumnList) (rows : List Row) (ds : List Data) → RowsFit cs rows → fits_in (looked_up rows ds) (records cs) ≡ true
looked_up_fits cs rows ds h = fault_or_fits ds (first_row_record (kept_rows rows ds)) (records cs) (λ e. first_fits cs (kept_rows rows ds) (kept_rows_fit cs rows ds h))

table_by_fits : (down : Bool) (keys : List Data) (rows : List Row) (cs : ColumnList) (v : Data) → RowsFit cs rows → IsTableBy down keys rows v → fits_in v (tables cs) ≡ true
table_by_fits down keys rows cs (tab rs) h t =
    let P : RowList → Type 0 = λ z. rows_fit z cs ≡ true in
    subst P (sym t.1) (ordered_fit down keys rows t.0 (tables cs) t.2 (table_fits cs rows h))
table_by_fits down keys rows cs blank h t = absurd t
table_by_fits down keys rows cs (number z) h t = absurd t
table_by_fits down keys rows cs (text x) h t = absurd t
table_by_fits down keys rows cs (boolean b) h t = absurd t
table_by_fits down keys rows cs (date z) h t = absurd t
table_by_fits down keys rows cs (rec fs) h t = absurd t
table_by_fits down keys rows cs (fault k m) h t = absurd t

pub sort_fits : (down : Bool) (cs : ColumnList) (rows : List Row) (keys : List Data) (v : Data) → RowsFit cs rows → IsSortOf down rows keys v → fits_in v (tables cs) ≡ true
sort_fits down cs rows keys v h = first_error_fits keys (IsTableBy down keys rows) v (tables cs) (table_by_fits down keys rows cs v h)

pub count_fits : (n : ℕ) (v : Data) → IsCountValue n v → fits_in v numbers ≡ true
count_fits n (number z) h = refl
count_fits n (fault k cs) h = refl
count_fits n blank h = absurd h
count_fits n (text x) h = absurd h
count_fits n (boolean b) h = absurd h
count_fits n (date z) h = absurd h
count_fits n (rec fs) h = absurd h
count_fits n (tab rs) h = absurd h

pub number_or_blank_fits : (P : Option ℤ → Type 0) (v : Data) → IsNumberOrBlank P v → fits_in v numbers ≡ true
number_or_blank_fits P (number z) h = refl
number_or_blank_fits P blank h = refl
number_or_blank_fits P (fault k cs) h = absurd h
number_or_blank_fits P (text x) h = absurd h
number_or_blank_fits P (boolean b) h = absurd h
number_or_blank_fits P (date z) h = absurd h
number_or_blank_fits P (rec fs) h = absurd h
number_or_blank_fits P (tab rs) h = absurd h

pub sum_fits : (zs : List ℤ) (v : Data) → IsSumValue zs v → fits_in v numbers ≡ true
sum_fits zs (fault k cs) h = refl
sum_fits zs blank h = refl
sum_fits zs (number z) h = refl
sum_fits zs (text x) h = absurd h
sum_fits zs (boolean b) h = absurd h
sum_fits zs (date z) h = absurd h
sum_fits zs (rec fs) h = absurd h
sum_fits zs (tab rs) h = absurd h

maybe_fits : (o : Option ℤ) → fits_in (number_or_blank o) numbers ≡ true
maybe_fits (Some z) = refl
maybe_fits None = refl

pub averaged_fits : (ds : List Data) → fits_in (averaged ds) numbers ≡ true
averaged_fits ds = fault_or_fits ds (number_or_blank _) numbers (λ e. maybe_fits _)

made_fits : (r : Result (List ℕ) Kind) → fits_in (made_value r) texts ≡ true
made_fits (Ok cs) = refl
made_fits (Err k) = refl

pub concatenated_fits : (s : List ℕ) (ds : List Data) → fits_in (concatenated s ds) texts ≡ true
concatenated_fits s ds = fault_or_fits ds (made_value _) texts (λ e. made_fits _)

pub joined_by_fits : (s : Data) (ds : List Data) → fits_in (concatenated_by s ds) texts ≡ true
joined_by_fits (fault k cs) ds = fault_or_fits ds (fault k cs) texts (λ e. refl)
joined_by_fits blank ds = concatenated_fits _ ds
joined_by_fits (number z) ds = concatenated_fits _ ds
joined_by_fits (text x) ds = concatenated_fits _ ds
joined_by_fits (boolean b) ds = concatenated_fits _ ds
joined_by_fits (date z) ds = concatenated_fits _ ds
joined_by_fits (rec fs) ds = concatenated_fits _ ds
joined_by_fits (tab rs) ds = concatenated_fits _ ds

-- ---- formulas over rows
abbrev pub AllFit : Shape → List Data → Type 0
AllFit t [] = Unit {0}
AllFit t (d ∷ ds) = (fits_in d t ≡ true) × AllFit t ds

pub each_fits : (g : Giving) (c : Context) (rows : List Data) (item : Option Data) (caught : Option Fault) → Suits g c rows item →
    (cs : ColumnList) (F : Meaning) (u : Shape) → Holds g (record c { rows = c.rows ++ records cs ∷ [] }) F u →
    (rs : List Row) (ds : List Data) → RowsFit cs rs → AreEach F (stands g rows item caught) rs ds → AllFit u ds
each_fits g c rows item caught s cs F u k [] [] f h = tt
each_fits g c rows item caught s cs F u k (r ∷ rs) (d ∷ ds) f h = (
  k (rows ++ record_of r ∷ []) item caught d (inside_suits g c rows item (record_of r) (records cs) s f.0) h.0,
  each_fits g c rows item caught s cs F u k rs ds f.1 h.1,
)
each_fits g c rows item caught s cs F u k [] (d ∷ ds) f h = absurd h
each_fits g c rows item caught s cs F u k (r ∷ rs) [] f h = absurd h

as_all : (t : Shape) (ds : List Data) → AllFit t ds → All (λ d. fits_in d t ≡ true) ds
as_all t [] h = All-nil (λ d. fits_in d t ≡ true)
as_all t (d ∷ ds) h = All-cons (λ d. fits_in d t ≡ true) d ds h.0 (as_all t ds h.1)

pub distinct_fits : (t : Shape) (ds : List Data) → AllFit t ds → fits_in (distinct_or ds) (tables (value_column t)) ≡ true
distinct_fits t ds h = fault_or_fits ds (tab (row_list (map value_row (distinct_of ds)))) (tables (value_column t)) (λ e. distinct_fit t ds (as_all t ds h))

pub for_all_fits : (t : Shape) (ds : List Data) → CanBeRowType t → AllFit t ds → fits_in (for_all_of ds) (tables (row_columns t)) ≡ true
for_all_fits t ds n h = fault_or_fits ds _ (tables (row_columns t)) (λ e. by_values_fit t ds n (as_all t ds h) e)

-- a formula of a row that was found
pub found_fits : (g : Giving) (c : Context) (rows : List Data) (item : Option Data) (caught : Option Fault) → Suits g c rows item →
    (cs : ColumnList) (F : Meaning) (u : Shape) → Holds g (record c { rows = c.rows ++ records cs ∷ [] }) F u →
    (w : Data) (v : Data) → fits_in w (records cs) ≡ true → IsOfFound w F (stands g rows item caught) v → fits_in v u ≡ true
found_fits g c rows item caught s cs F u k (rec fs) v f h = k (rows ++ rec fs ∷ []) item caught v (inside_suits g c rows item (rec fs) (records cs) s f) h
found_fits g c rows item caught s cs F u k blank v f h = given_fits v blank u refl h
found_fits g c rows item caught s cs F u k (fault x m) v f h = given_fits v (fault x m) u refl h
found_fits g c rows item caught s cs F u k w v f h = cc
