-- Rows that fit a lawful table are records of its type.
use Rattle.std.specs.Cmp.{first_so, second_so}
use Rattle.std.proofs.Common.{◌≡◌, ℕ, List, [], ◌∷◌, map, true, bytes_eq, refl, sym, subst, if◌then◌else◌}
use Rattle.std.specs.Prelude.{◌&&◌}
use Rattle.std.specs.List.{AllByRecursion}
use Rattle.std.specs.Cmp.Lexicographic.{slice_cmp}
use Rattle.std.specs.Ordering.{is_lt, match_ordering, nat_cmp}
use Rattle.std.specs.declared.cmp.Ordering.{Ordering}
use Rattle.std.specs.declared.cmp.Ordering.TheVariants.{Less, Equal, Greater}
use Rattle.std.proofs.lemmas.List.Elements.{recursion_from_All}
use Rattle.std.proofs.lemmas.Map.Lookups.{exact_bytes}
use Rattle.std.proofs.lemmas.Slice.Eq.{bytes_eq-Decides}
use Rattle.std.proofs.lemmas.Bool.{and_from}
use Rattle.fx_types.specs.TypeView.{shape}
use Rattle.fx_types.specs.Types.{Shape, ColumnList, no_columns, column, numbers}
use Rattle.fx_types.specs.Values.{Data, field_list, row_list}
use Rattle.fx_core.specs.declared.schema.Column.{Column}
use Rattle.fx_core.specs.declared.schema.TableShape.{TableShape}
use Rattle.fx_core.specs.Lawful.{AreDistinct, id_name}
use Rattle.fx_core.specs.SourceTypes.{columns_of, put_column, put_columns}
use Rattle.fx_value.specs.Columns.{with_field}
use Rattle.fx_value.specs.Columns.{Row as Fields}
use Rattle.fx_value.specs.Fits.{fields_fit, fits_in, rows_fit}
use Rattle.fx_value.proofs.Widenings.{own_name}
use Rattle.row_queries.specs.Laws.{RowsFit}
use Rattle.row_queries.specs.TableRows.{AreCellsOf, IsRowOf, id_value, record_of_row, cells_by_name}
use Rattle.row_queries.specs.declared.rows.Row.{Row}
use Rattle.row_queries.proofs.Lacking.{AllLackTypes, LacksType, all_lack_id, all_lack_types, names_of}

-- a field and a column of its type, each in its place
put_fits : (n : List ℕ) (d : Data) (u : Shape) (fs : Fields) (ks : ColumnList) → fits_in d u ≡ true → LacksType n ks → fields_fit (field_list fs) ks ≡ true →
    fields_fit (field_list (with_field n d fs)) (put_column n u ks) ≡ true
put_fits n d u [] no_columns fit l h = and_from (bytes_eq n n) (fits_in d u && true) (own_name n) (and_from (fits_in d u) true fit refl)
put_fits n d u [] (column m t ks) fit l h = cc
put_fits n d u (f ∷ fs) no_columns fit l h = cc
put_fits n d u (f ∷ fs) (column m t ks) fit l h =
    let name : bytes_eq f.0 m ≡ true = first_so (bytes_eq f.0 m) (fits_in f.1 t && fields_fit (field_list fs) ks) h in
    let rest : (fits_in f.1 t && fields_fit (field_list fs) ks) ≡ true = second_so (bytes_eq f.0 m) (fits_in f.1 t && fields_fit (field_list fs) ks) h in
    let own : fits_in f.1 t ≡ true = first_so (fits_in f.1 t) (fields_fit (field_list fs) ks) rest in
    let others : fields_fit (field_list fs) ks ≡ true = second_so (fits_in f.1 t) (fields_fit (field_list fs) ks) rest in
    let same : f.0 ≡ m = (bytes_eq-Decides f.0 m).0 name in
    subst (λ (x : List ℕ). Placed (slice_cmp nat_cmp n x) (slice_cmp nat_cmp n m)) (sym same)
    (by (slice_cmp nat_cmp n m) refl name own (put_fits n d u fs ks fit l.1 others))
  where
    Placed : Ordering → Ordering → Type 0
    Placed o p =
        fields_fit (field_list (if is_lt o then (n, d) ∷ f ∷ fs else f ∷ with_field n d fs))
        (match_ordering p (column n u (column m t ks)) (column m u ks) (column m t (put_column n u ks))) ≡ true

    by : (o : Ordering) → slice_cmp nat_cmp n m ≡ o → bytes_eq f.0 m ≡ true → fits_in f.1 t ≡ true → fields_fit (field_list (with_field n d fs)) (put_column n u ks) ≡ true →
        fields_fit (field_list (if is_lt o then (n, d) ∷ f ∷ fs else f ∷ with_field n d fs))
        (match_ordering o (column n u (column m t ks)) (column m u ks) (column m t (put_column n u ks))) ≡ true
    by Less e name own more = and_from (bytes_eq n n) _ (own_name n) (and_from (fits_in d u) _ fit h)
    by Equal e name own more = absurd (l.0 (exact_bytes n m e))
    by Greater e name own more = and_from (bytes_eq f.0 m) _ name (and_from (fits_in f.1 t) _ own more)

cells_fit : (cs : List Column) (ds : List Data) (fs : Fields) (ks : ColumnList) → AreCellsOf cs ds → AreDistinct (names_of cs) → AllLackTypes cs ks → fields_fit (field_list fs) ks ≡ true →
    fields_fit (field_list (cells_by_name cs ds fs)) (put_columns cs ks) ≡ true
cells_fit [] [] fs ks a x l h = h
cells_fit (c ∷ cs) (d ∷ ds) fs ks a x l h =
    cells_fit cs ds (with_field c.name d fs) (put_column c.name (shape c.ty) ks) a.2 x.1 (all_lack_types c.name (shape c.ty) cs ks x.0 l.1)
    (put_fits c.name d (shape c.ty) fs ks a.1 l.0 h)
cells_fit [] (d ∷ ds) fs ks a x l h = absurd a
cells_fit (c ∷ cs) [] fs ks a x l h = absurd a

row_fits : (t : TableShape) (r : Row) → AreDistinct (id_name ∷ names_of t.columns) → IsRowOf t r → fields_fit (field_list (record_of_row t r)) (columns_of t) ≡ true
row_fits t r x h =
    cells_fit t.columns r.cells ((id_name, id_value r.id) ∷ []) (column id_name numbers no_columns) h.1 x.1 (all_lack_id id_name numbers t.columns x.0)
    (and_from (bytes_eq id_name id_name) true (own_name id_name) refl)

rows_fit_all : (t : TableShape) (rows : List Row) → AreDistinct (id_name ∷ names_of t.columns) → AllByRecursion (IsRowOf t) rows → rows_fit (row_list (map (record_of_row t) rows)) (columns_of t) ≡ true
rows_fit_all t [] x h = refl
rows_fit_all t (r ∷ rows) x h = and_from (fields_fit (field_list (record_of_row t r)) (columns_of t)) _ (row_fits t r x h.0) (rows_fit_all t rows x h.1)

pub all_fit : RowsFit
all_fit t rows l h = rows_fit_all t rows l.2 (recursion_from_All (IsRowOf t) rows h)
