-- Rows that are taken of rows that fit.
use Rattle.std.specs.Cmp.{first_so, second_so}
use Rattle.std.proofs.Common.{◌≡◌, ℕ, List, [], ◌∷◌, ◌++◌, take, drop, Bool, true, refl, sym, subst}
use Rattle.std.specs.List.{All, filter, zip}
use Rattle.std.proofs.lemmas.List.Elements.{All-nil, All-cons, All-head, All-tail, All-filter, All-map, All-take, All-drop}
use Rattle.std.proofs.lemmas.List.Sorted.{All-permutation}
use Rattle.std.proofs.lemmas.Bool.{and_from}
use Rattle.fx_types.specs.Types.{Shape, blanks, numbers, texts, booleans, dates, records, tables, ColumnList}
use Rattle.fx_types.specs.Values.{Data, tab, field_list, row_list}
use Rattle.fx_value.specs.Fits.{fits_in, fields_fit, rows_fit}
use Rattle.fx_value.specs.Columns.{Row}
use Rattle.fx_value.specs.Ordered.{IsOrderedBy}
use Rattle.fx_tables.specs.RowCalls.{holds, kept_rows}

-- a row fits these columns
abbrev pub RowFits : ColumnList → Row → Type 0
RowFits cs r = fields_fit (field_list r) cs ≡ true

each_fits : (cs : ColumnList) (rs : List Row) → rows_fit (row_list rs) cs ≡ true → All (RowFits cs) rs
each_fits cs [] h = All-nil (RowFits cs)
each_fits cs (r ∷ rs) h =
    All-cons (RowFits cs) r rs (first_so (fields_fit (field_list r) cs) (rows_fit (row_list rs) cs) h)
    (each_fits cs rs (second_so (fields_fit (field_list r) cs) (rows_fit (row_list rs) cs) h))

all_fit : (cs : ColumnList) (rs : List Row) → All (RowFits cs) rs → rows_fit (row_list rs) cs ≡ true
all_fit cs [] h = refl
all_fit cs (r ∷ rs) h =
    and_from (fields_fit (field_list r) cs) (rows_fit (row_list rs) cs) (All-head (RowFits cs) r rs h) (all_fit cs rs (All-tail (RowFits cs) r rs h))

-- where the rows that are taken have each property that all rows have, they fit what those fit
taken_fit : (rows taken : List Row) (t : Shape) → ((P : Row → Type 0) → All P rows → All P taken) → fits_in (tab (row_list rows)) t ≡ true → fits_in (tab (row_list taken)) t ≡ true
taken_fit rows taken blanks k h = cc
taken_fit rows taken numbers k h = cc
taken_fit rows taken texts k h = cc
taken_fit rows taken booleans k h = cc
taken_fit rows taken dates k h = cc
taken_fit rows taken (records cs) k h = cc
taken_fit rows taken (tables cs) k h = all_fit cs taken (k (RowFits cs) (each_fits cs rows h))

first_all : (P : Row → Type 0) (rows : List Row) (ds : List Data) → All P rows → All (λ (p : Row × Data). P p.0) (zip rows ds)
first_all P [] [] h = All-nil (λ (p : Row × Data). P p.0)
first_all P [] (d ∷ ds) h = All-nil (λ (p : Row × Data). P p.0)
first_all P (r ∷ rs) [] h = All-nil (λ (p : Row × Data). P p.0)
first_all P (r ∷ rs) (d ∷ ds) h = All-cons (λ (p : Row × Data). P p.0) (r, d) (zip rs ds) (All-head P r rs h) (first_all P rs ds (All-tail P r rs h))

second_all : (P : Row → Type 0) (ds : List Data) (rows : List Row) → All P rows → All (λ (p : Data × Row). P p.1) (zip ds rows)
second_all P [] [] h = All-nil (λ (p : Data × Row). P p.1)
second_all P (d ∷ ds) [] h = All-nil (λ (p : Data × Row). P p.1)
second_all P [] (r ∷ rs) h = All-nil (λ (p : Data × Row). P p.1)
second_all P (d ∷ ds) (r ∷ rs) h = All-cons (λ (p : Data × Row). P p.1) (d, r) (zip ds rs) (All-head P r rs h) (second_all P ds rs (All-tail P r rs h))

kept_all : (rows : List Row) (ds : List Data) (P : Row → Type 0) → All P rows → All P (kept_rows rows ds)
kept_all rows ds P h =
    All-map P (λ (p : Row × Data). p.0) (filter (λ (p : Row × Data). holds p.1) (zip rows ds))
    (All-filter (λ (p : Row × Data). holds p.1) (λ (p : Row × Data). P p.0) (zip rows ds) (first_all P rows ds h))

ordered_all : (down : Bool) (keys : List Data) (rows ordered : List Row) → IsOrderedBy down keys rows ordered → (P : Row → Type 0) → All P rows → All P ordered
ordered_all down keys rows ordered o P h =
    let pairs = All-permutation (λ (p : Data × Row). P p.1) (zip keys rows) o.pairs o.rearranged (second_all P keys rows h) in
    subst (All P) (sym o.result) (All-map P (λ (p : Data × Row). p.1) o.pairs pairs)

pub kept_fit : (rows : List Row) (ds : List Data) (t : Shape) → fits_in (tab (row_list rows)) t ≡ true → fits_in (tab (row_list (kept_rows rows ds))) t ≡ true
kept_fit rows ds t h = taken_fit rows (kept_rows rows ds) t (kept_all rows ds) h

pub ordered_fit : (down : Bool) (keys : List Data) (rows ordered : List Row) (t : Shape) → IsOrderedBy down keys rows ordered → fits_in (tab (row_list rows)) t ≡ true → fits_in (tab (row_list ordered)) t ≡ true
ordered_fit down keys rows ordered t o h = taken_fit rows ordered t (ordered_all down keys rows ordered o) h

pub first_fits : (r : Row) (rs : List Row) (cs : ColumnList) → fits_in (tab (row_list (r ∷ rs))) (tables cs) ≡ true → fields_fit (field_list r) cs ≡ true
first_fits r rs cs h = first_so (fields_fit (field_list r) cs) (rows_fit (row_list rs) cs) h

pub first_rows_fit : (rows : List Row) (n : ℕ) (t : Shape) → fits_in (tab (row_list rows)) t ≡ true → fits_in (tab (row_list (take n rows))) t ≡ true
first_rows_fit rows n t h = taken_fit rows (take n rows) t (λ P k. All-take P n rows k) h

pub last_rows_fit : (rows : List Row) (n : ℕ) (t : Shape) → fits_in (tab (row_list rows)) t ≡ true → fits_in (tab (row_list (drop n rows))) t ≡ true
last_rows_fit rows n t h = taken_fit rows (drop n rows) t (λ P k. All-drop P n rows k) h

-- the last of rows that fit
pub last_fits : (rs : List Row) (r : Row) (rows : List Row) (cs : ColumnList) → rows ≡ rs ++ r ∷ [] → rows_fit (row_list rows) cs ≡ true → fields_fit (field_list r) cs ≡ true
last_fits rs r rows cs e h =
    let P : List Row → Type 0 = λ zs. rows_fit (row_list zs) cs ≡ true in
    from rs (subst P e h)
  where
    from : (zs : List Row) → rows_fit (row_list (zs ++ r ∷ [])) cs ≡ true → fields_fit (field_list r) cs ≡ true
    from [] k = first_so (fields_fit (field_list r) cs) true k
    from (z ∷ zs) k = from zs (second_so (fields_fit (field_list z) cs) (rows_fit (row_list (zs ++ r ∷ [])) cs) k)
