-- Cells under the names of their columns.
use Rattle.std.proofs.Common.{◌≡◌, ◌≢◌, ℕ, List, [], ◌∷◌, Bool, true, false, bytes_eq, Option, Some, None, refl, sym, ap, ◌∙◌, subst, if◌then◌else◌}
use Rattle.std.specs.Prelude.{cond, unwrap_or}
use Rattle.std.specs.List.{find}
use Rattle.std.specs.Option.{option_or}
use Rattle.std.specs.Cmp.Lexicographic.{slice_cmp}
use Rattle.std.specs.Ordering.{is_lt, match_ordering, nat_cmp}
use Rattle.std.specs.declared.cmp.Ordering.{Ordering}
use Rattle.std.specs.declared.cmp.Ordering.TheVariants.{Less, Equal, Greater}
use Rattle.std.proofs.lemmas.List.Elements.{recursion_from_All}
use Rattle.std.proofs.lemmas.List.Folds.{find-append}
use Rattle.std.proofs.lemmas.Map.Lookups.{exact_bytes}
use Rattle.std.proofs.lemmas.Slice.Eq.{bytes_eq-Decides}
use Rattle.std.specs.List.{AllByRecursion}
use Rattle.fx_types.specs.Lookup.{item_named}
use Rattle.fx_types.specs.declared.types.Ty.{Ty}
use Rattle.fx_types.specs.declared.types.Ty.TheVariants as ty
use Rattle.fx_types.specs.Types.{Shape, numbers, texts, booleans, dates, records, tables, ColumnList, no_columns, column}
use Rattle.fx_types.specs.TypeView.{shape}
use Rattle.fx_types.specs.Values.{Data, blank, number, text, boolean, date, rec, tab, fault}
use Rattle.fx_value.specs.Columns.{with_field}
use Rattle.fx_value.specs.Columns.{Row as Fields}
use Rattle.fx_tables.specs.Unions.{is_fault}
use Rattle.fx_core.specs.declared.schema.Column.{Column}
use Rattle.fx_core.specs.declared.schema.TableShape.{TableShape}
use Rattle.fx_core.specs.Lawful.{AreDistinct, DiffersFromAll, IsColumnType, IsLawfulTable, id_name}
use Rattle.fx_core.specs.SourceTypes.{columns_of, put_column, put_columns}
use Rattle.fx_typing.specs.LawfulTypes.{AreLawfulColumns}
use Rattle.fx_value.proofs.Widenings.{flat_fits, own_name, rec_to_records, tab_to_tables, type_in}
use Rattle.fx_value.specs.Coercion.{CanWiden}
use Rattle.fx_value.specs.Fits.{fits_in}
use Rattle.fx_value.specs.Order.{IsScalar}
use Rattle.row_queries.specs.TableRows.{AreCellsOf, IsRowOf, id_value, record_of_row, cells_by_name}
use Rattle.row_queries.specs.declared.rows.Row.{Row}
use Rattle.row_queries.proofs.Lacking.{AllLack, AllLackTypes, Lacks, LacksType, all_lack_id, all_lack_one, all_lack_put, all_lack_types, names_of}
use Rattle.fx_deeds.proofs.Joins.{field_can}
use Rattle.fx_deeds.specs.Fitting.{AreOfSome}
use Rattle.fx_deeds.specs.RowValues.{blank_cells, cells_in, changed_cells, changed_value, values_among, field_values}

other_name : (n m : List ℕ) → (n ≡ m → ⊥) → bytes_eq n m ≡ false
other_name n m h = by (bytes_eq n m) refl
  where
    by : (b : Bool) → bytes_eq n m ≡ b → b ≡ false
    by true e = absurd (h ((bytes_eq-Decides n m).0 e))
    by false e = refl

-- ---- the cells of a record

put_own : (n : List ℕ) (d : Data) (fs : Fields) → Lacks n fs → item_named n (with_field n d fs) ≡ Some d
put_own n d [] l = rw (own_name n) refl
put_own n d (f ∷ fs) l = by (is_lt (slice_cmp nat_cmp n f.0)) (put_own n d fs l.1)
  where
    by : (b : Bool) → item_named n (with_field n d fs) ≡ Some d → item_named n (if b then (n, d) ∷ f ∷ fs else f ∷ with_field n d fs) ≡ Some d
    by true h = rw (own_name n) refl
    by false h = rw (other_name f.0 n (λ e. l.0 (sym e))) h

put_other : (n m : List ℕ) (d : Data) (fs : Fields) → n ≢ m → item_named n (with_field m d fs) ≡ item_named n fs
put_other n m d [] a = rw (other_name m n (λ e. a (sym e))) refl
put_other n m d (f ∷ fs) a = by (is_lt (slice_cmp nat_cmp m f.0)) (put_other n m d fs a)
  where
    by : (b : Bool) → item_named n (with_field m d fs) ≡ item_named n fs → item_named n (if b then (m, d) ∷ f ∷ fs else f ∷ with_field m d fs) ≡ item_named n (f ∷ fs)
    by true h = rw (other_name m n (λ e. a (sym e))) refl
    by false h = ap (λ (o : Option Data). if bytes_eq f.0 n then Some f.1 else o) h

others_stay : (n : List ℕ) (cs : List Column) (ds : List Data) (fs : Fields) → DiffersFromAll n (names_of cs) → item_named n (cells_by_name cs ds fs) ≡ item_named n fs
others_stay n [] ds fs a = refl
others_stay n (c ∷ cs) [] fs a = refl
others_stay n (c ∷ cs) (d ∷ ds) fs a = others_stay n cs ds (with_field c.name d fs) a.1 ∙ put_other n c.name d fs a.0

cells_under : (cs : List Column) (ds : List Data) (fs : Fields) → AreCellsOf cs ds → AreDistinct (names_of cs) → AllLack cs fs → cells_in cs (cells_by_name cs ds fs) ≡ ds
cells_under [] [] fs a x l = refl
cells_under (c ∷ cs) (d ∷ ds) fs a x l =
    let own : item_named c.name (cells_by_name cs ds (with_field c.name d fs)) ≡ Some d = others_stay c.name cs ds (with_field c.name d fs) x.0 ∙ put_own c.name d fs l.0 in
    λ i. unwrap_or (own i) blank ∷ cells_under cs ds (with_field c.name d fs) a.2 x.1 (all_lack_put c.name d cs fs x.0 l.1) i
cells_under [] (d ∷ ds) fs a x l = absurd a
cells_under (c ∷ cs) [] fs a x l = absurd a

-- the cells of a row's record are the row's
pub cells_back : (t : TableShape) (r : Row) → IsLawfulTable t → IsRowOf t r → cells_in t.columns (record_of_row t r) ≡ r.cells
cells_back t r l h = cells_under t.columns r.cells ((id_name, id_value r.id) ∷ []) h.1 l.2.1 (all_lack_one id_name (id_value r.id) t.columns l.2.0)

-- ---- the types of columns

type_own : (n : List ℕ) (u : Shape) (ks : ColumnList) → LacksType n ks → type_in n (put_column n u ks) ≡ Some u
type_own n u no_columns l = rw (own_name n) refl
type_own n u (column m t ks) l = by (slice_cmp nat_cmp n m) refl (type_own n u ks l.1)
  where
    by : (o : Ordering) → slice_cmp nat_cmp n m ≡ o → type_in n (put_column n u ks) ≡ Some u → type_in n (match_ordering o (column n u (column m t ks)) (column m u ks) (column m t (put_column n u ks))) ≡ Some u
    by Less e h = rw (own_name n) refl
    by Equal e h = absurd (l.0 (exact_bytes n m e))
    by Greater e h = rw (other_name m n (λ q. l.0 (sym q))) h

type_other : (n m : List ℕ) (u : Shape) (ks : ColumnList) → n ≢ m → LacksType m ks → type_in n (put_column m u ks) ≡ type_in n ks
type_other n m u no_columns a l = rw (other_name m n (λ e. a (sym e))) refl
type_other n m u (column k t ks) a l = by (slice_cmp nat_cmp m k) refl (type_other n m u ks a l.1)
  where
    by : (o : Ordering) → slice_cmp nat_cmp m k ≡ o → type_in n (put_column m u ks) ≡ type_in n ks →
        type_in n (match_ordering o (column m u (column k t ks)) (column k u ks) (column k t (put_column m u ks))) ≡ type_in n (column k t ks)
    by Less e h = rw (other_name m n (λ q. a (sym q))) refl
    by Equal e h = absurd (l.0 (exact_bytes m k e))
    by Greater e h = ap (λ (o : Option Shape). if bytes_eq k n then Some t else o) h

types_stay : (n : List ℕ) (cs : List Column) (ks : ColumnList) → DiffersFromAll n (names_of cs) → AreDistinct (names_of cs) → AllLackTypes cs ks → type_in n (put_columns cs ks) ≡ type_in n ks
types_stay n [] ks a x l = refl
types_stay n (c ∷ cs) ks a x l = types_stay n cs (put_column c.name (shape c.ty) ks) a.1 x.1 (all_lack_types c.name (shape c.ty) cs ks x.0 l.1) ∙ type_other n c.name (shape c.ty) ks a.0 l.0

-- each of these columns has its type among all
abbrev pub HaveTypes : List Column → ColumnList → Type 0
HaveTypes [] all = Unit {0}
HaveTypes (c ∷ cs) all = (type_in c.name all ≡ Some (shape c.ty)) × HaveTypes cs all

have_types : (cs : List Column) (ks : ColumnList) → AreDistinct (names_of cs) → AllLackTypes cs ks → HaveTypes cs (put_columns cs ks)
have_types [] ks x l = tt
have_types (c ∷ cs) ks x l =
    let more = all_lack_types c.name (shape c.ty) cs ks x.0 l.1 in
    (types_stay c.name cs (put_column c.name (shape c.ty) ks) x.0 x.1 more ∙ type_own c.name (shape c.ty) ks l.0, have_types cs (put_column c.name (shape c.ty) ks) x.1 more)

pub table_types : (t : TableShape) → IsLawfulTable t → HaveTypes t.columns (columns_of t)
table_types t l = have_types t.columns (column id_name numbers no_columns) l.2.1 (all_lack_id id_name numbers t.columns l.2.0)

-- ---- cells after changes

-- no error in the fields of these rows
abbrev AreClean : List Fields → Type 0
AreClean [] = Unit {0}
AreClean (q ∷ qs) = (find is_fault (field_values q) ≡ None) × AreClean qs

first_none : {X : Type 0} (a b : Option X) → option_or a b ≡ None → (a ≡ None) × (b ≡ None)
first_none None b h = (refl, h)
first_none (Some x) b h = absurd cc

pub clean : (changes : List Fields) → find is_fault (values_among changes) ≡ None → AreClean changes
clean [] h = tt
clean (q ∷ qs) h = let k = first_none (find is_fault (field_values q)) (find is_fault (values_among qs)) (sym (find-append is_fault (field_values q) (values_among qs)) ∙ h) in (k.0, clean qs k.1)

item_clean : (n : List ℕ) (q : Fields) (v : Data) → find is_fault (field_values q) ≡ None → item_named n q ≡ Some v → is_fault v ≡ false
item_clean n [] v h e = absurd cc
item_clean n (f ∷ fs) v h e = go (is_fault f.1) refl h (λ k q. item_clean n fs v k q) (bytes_eq f.0 n) e
  where
    go : (b : Bool) → is_fault f.1 ≡ b → cond b (Some f.1) (find is_fault (field_values fs)) ≡ None → (find is_fault (field_values fs) ≡ None → item_named n fs ≡ Some v → is_fault v ≡ false) → (c : Bool) →
        (if c then Some f.1 else item_named n fs) ≡ Some v → is_fault v ≡ false
    go true p k more c q = absurd cc
    go false p k more true q = let same : f.1 ≡ v = cc in subst (λ z. is_fault z ≡ false) same p
    go false p k more false q = more k q

-- a type of scalars
abbrev IsPlain : Shape → Type 0
IsPlain numbers = Unit {0}
IsPlain texts = Unit {0}
IsPlain booleans = Unit {0}
IsPlain dates = Unit {0}
IsPlain t = ⊥

plain : (t : Ty) → IsColumnType t → IsPlain (shape t)
plain ty.Number h = tt
plain ty.Text h = tt
plain ty.Boolean h = tt
plain ty.Date h = tt
plain ty.Blank h = absurd h
plain (ty.Rec cs) h = absurd h
plain (ty.Tab cs) h = absurd h

no_records : (cs : ColumnList) (t : Shape) → t ≡ records cs → IsPlain t → ⊥
no_records cs t e h = subst IsPlain e h

no_tables : (cs : ColumnList) (t : Shape) → t ≡ tables cs → IsPlain t → ⊥
no_tables cs t e h = subst IsPlain e h

cell_fits : (d : Data) (t : Shape) → IsPlain t → is_fault d ≡ false → CanWiden d t → IsScalar d × (fits_in d t ≡ true)
cell_fits blank t p n c = (tt, refl)
cell_fits (number z) t p n c = (tt, flat_fits (number z) t tt c)
cell_fits (text cs) t p n c = (tt, flat_fits (text cs) t tt c)
cell_fits (boolean b) t p n c = (tt, flat_fits (boolean b) t tt c)
cell_fits (date z) t p n c = (tt, flat_fits (date z) t tt c)
cell_fits (rec fs) t p n c = let k = rec_to_records fs t c in absurd (no_records k.0 t k.1 p)
cell_fits (tab rs) t p n c = let k = tab_to_tables rs t c in absurd (no_tables k.0 t k.1 p)
cell_fits (fault k cs) t p n c = absurd cc

changed_fits : (all : ColumnList) → AreLawfulColumns all → (n : List ℕ) (t : Shape) → type_in n all ≡ Some t → IsPlain t → (changes : List Fields) → AreOfSome all changes → AreClean changes → (d : Data) → IsScalar d × (fits_in d t ≡ true) →
    IsScalar (changed_value n changes d) × (fits_in (changed_value n changes d) t ≡ true)
changed_fits all l n t e p [] h k d f = f
changed_fits all l n t e p (q ∷ qs) h k d f = changed_fits all l n t e p qs h.1 k.1 (unwrap_or (item_named n q) d) (by (item_named n q) refl)
  where
    by : (o : Option Data) → item_named n q ≡ o → IsScalar (unwrap_or o d) × (fits_in (unwrap_or o d) t ≡ true)
    by None i = f
    by (Some v) i = cell_fits v t p (item_clean n q v k.0 i) (field_can all l q h.0 n t e v i)

cells_changed : (cs : List Column) (all : ColumnList) → AreLawfulColumns all → HaveTypes cs all → AllByRecursion (λ (c : Column). IsColumnType c.ty) cs → (changes : List Fields) → AreOfSome all changes → AreClean changes → (ds : List Data) → AreCellsOf cs ds →
    AreCellsOf cs (changed_cells cs changes ds)
cells_changed [] all l t p changes h k [] f = tt
cells_changed (c ∷ cs) all l t p changes h k (d ∷ ds) f =
    let one = changed_fits all l c.name (shape c.ty) t.0 (plain c.ty p.0) changes h k d (f.0, f.1) in
    (one.0, one.1, cells_changed cs all l t.1 p.1 changes h k ds f.2)
cells_changed [] all l t p changes h k (d ∷ ds) f = absurd f
cells_changed (c ∷ cs) all l t p changes h k [] f = absurd f

-- the cells of a row of a table after changes without errors
pub changed_cells_fit : (t : TableShape) → IsLawfulTable t → AreLawfulColumns (columns_of t) → (changes : List Fields) → AreOfSome (columns_of t) changes → find is_fault (values_among changes) ≡ None → (ds : List Data) → AreCellsOf t.columns ds →
    AreCellsOf t.columns (changed_cells t.columns changes ds)
changed_cells_fit t l a changes h e ds f =
    cells_changed t.columns (columns_of t) a (table_types t l) (recursion_from_All (λ (c : Column). IsColumnType c.ty) t.columns l.1) changes h (clean changes e) ds f

blanks_fit_in : (cs : List Column) → AreCellsOf cs (blank_cells cs)
blanks_fit_in [] = tt
blanks_fit_in (c ∷ cs) = (tt, refl, blanks_fit_in cs)

-- and of a new row
pub blanks_fit : (t : TableShape) → AreCellsOf t.columns (blank_cells t.columns)
blanks_fit t = blanks_fit_in t.columns
