-- Groups of rows, and rows out of their groups, fit the columns that they are given.
use Rattle.std.proofs.Common.{◌≡◌, ℕ, List, [], ◌∷◌, ◌++◌, map, flat_map, filter, not, Bool, true, false, is_some, cond, unwrap_or, Option, Some, None, Result, Ok, Err, refl, ap, sym, subst, ◌∙◌}
use Rattle.std.specs.Prelude.{bytes_eq, if◌then◌else◌}
use Rattle.std.specs.Ordering.{nat_cmp, is_eq, match_ordering}
use Rattle.std.specs.Cmp.Lexicographic.{slice_cmp}
use Rattle.std.specs.declared.cmp.Ordering.{Ordering}
use Rattle.std.specs.declared.cmp.Ordering.TheVariants.{Less, Equal, Greater}
use Rattle.std.proofs.lemmas.Map.Text.{is_eq-slice_cmp}
use Rattle.fx_types.specs.Lookup.{item_named}
use Rattle.fx_types.specs.Types.{Shape, tables, ColumnList, no_columns, column}
use Rattle.fx_types.specs.Values.{Data, blank, field_list}
use Rattle.fx_core.specs.SourceTypes.{put_column}
use Rattle.fx_core.specs.Term.{Terms, nil, cons}
use Rattle.fx_core.specs.Rules as rules
use Rattle.fx_core.specs.ColumnLists.{and_then, before_last, field_in, if_free, if_there, is_one_of, joined_columns, columns_only as only_columns, columns_without as without_column, without_all}
use Rattle.fx_tables.proofs.FitColumns.{dropped_fit, rows_only_fit}
use Rattle.fx_tables.proofs.FitRows.{RowFits}
use Rattle.fx_tables.specs.ColumnCalls.{without_columns}
use Rattle.fx_typing.specs.Columns.{are_keys, by_label, first_shared, grouped, grouped_by, label_of, last_label, names_there, out_of, ungrouped, with_group}
use Rattle.fx_typing.specs.WellTyped.{typed_pairs}
use Rattle.fx_typing.proofs.Operators.{then_ok}
use Rattle.fx_value.proofs.Unions.{Under, Rises}
use Rattle.fx_value.proofs.Widenings.{own_name, same_name}
use Rattle.fx_value.specs.Columns.{Row, fields_only, with_field, fields_without}
use Rattle.fx_value.specs.Fits.{fits_in, fields_fit}
use Rattle.fx_tables.specs.Groups.{firsts_of, group_of, grouped_row, is_same_key, key_of, last_name, rows_under, value_of, with_fields}
use Rattle.fx_semantics.specs.Around.{Around}
use Rattle.fx_semantics.specs.Fresh.{meanings}
use Rattle.fx_semantics.specs.Rows.{AreNames, rows_in, table_of}
use Rattle.fx_semantics.proofs.Columns.{SoMany, fine, free_ok, label_ok, name_is, ok_is, there_ok, with_fit}
use Rattle.fx_semantics.proofs.Fields.{first_fits, name_fits, rest_fits}
use Rattle.fx_semantics.proofs.Tables.{RowsFit, fit_table, rows_in_fit, table_fits}

-- ---- rows that are taken of rows
filter_fit : (p : Row → Bool) (cs : ColumnList) (rows : List Row) → RowsFit cs rows → RowsFit cs (filter p rows)
filter_fit p cs [] h = tt
filter_fit p cs (r ∷ rows) h = by (p r) (filter_fit p cs rows h.1)
  where
    by : (b : Bool) → RowsFit cs (filter p rows) → RowsFit cs (cond b (r ∷ filter p rows) (filter p rows))
    by true k = (h.0, k)
    by false k = k

firsts_fit : (ns : List (List ℕ)) (cs : ColumnList) (rows : List Row) → RowsFit cs rows → RowsFit cs (firsts_of ns rows)
firsts_fit ns cs [] h = tt
firsts_fit ns cs (r ∷ rows) h = (h.0, filter_fit (λ s. not (is_same_key (key_of ns r) (key_of ns s))) cs (firsts_of ns rows) (firsts_fit ns cs rows h.1))

more_fit : (cs : ColumnList) (xs ys : List Row) → RowsFit cs xs → RowsFit cs ys → RowsFit cs (xs ++ ys)
more_fit cs [] ys h k = k
more_fit cs (x ∷ xs) ys h k = (h.0, more_fit cs xs ys h.1 k)

-- ---- groups
free_only : (g : List ℕ) (ns : List (List ℕ)) (cs : ColumnList) → field_in g cs ≡ None → field_in g (only_columns ns cs) ≡ None
free_only g ns no_columns e = refl
free_only g ns (column m t cs) e = by_name (λ f. free_only g ns cs f) (bytes_eq m g) refl e
  where
    by_kept : (b : Bool) → bytes_eq m g ≡ false → field_in g (only_columns ns cs) ≡ None → field_in g (if b then column m t (only_columns ns cs) else only_columns ns cs) ≡ None
    by_kept true i f = ap (λ c. if c then Some t else field_in g (only_columns ns cs)) i ∙ f
    by_kept false i f = f

    by_name : (field_in g cs ≡ None → field_in g (only_columns ns cs) ≡ None) → (b : Bool) → bytes_eq m g ≡ b → (if b then Some t else field_in g cs) ≡ None →
        field_in g (only_columns ns (column m t cs)) ≡ None
    by_name more true i f = absurd cc
    by_name more false i f = by_kept (is_one_of m ns) i (more f)

group_fits : (ns : List (List ℕ)) (cs : ColumnList) (rows : List Row) (r : Row) → Rises cs → RowsFit cs rows → fits_in (table_of (group_of ns rows r)) (tables (without_all ns cs)) ≡ true
group_fits ns cs rows r rising h =
    let taken = filter (λ s. is_same_key (key_of ns r) (key_of ns s)) rows in
    dropped_fit ns taken cs rising (table_fits cs taken (filter_fit (λ s. is_same_key (key_of ns r) (key_of ns s)) cs rows h))

only_fits : (ns : List (List ℕ)) (cs : ColumnList) (r : Row) → RowFits cs r → RowFits (only_columns ns cs) (fields_only ns r)
only_fits ns cs r h = (fit_table (only_columns ns cs) (map (fields_only ns) (r ∷ [])) (rows_only_fit ns (r ∷ []) cs (table_fits cs (r ∷ []) (h, tt)))).0

grouped_row_fits : (ns : List (List ℕ)) (g : List ℕ) (cs : ColumnList) (rows : List Row) (r : Row) → Rises cs → field_in g cs ≡ None → RowsFit cs rows → RowFits cs r →
    RowFits (with_group g ns cs) (grouped_row ns g rows r)
grouped_row_fits ns g cs rows r rising e h f =
    with_fit g (table_of (group_of ns rows r)) (tables (without_all ns cs)) (fields_only ns r) (only_columns ns cs) (group_fits ns cs rows r rising h) (only_fits ns cs r f) (free_only g ns cs e)

all_grouped : (ns : List (List ℕ)) (g : List ℕ) (cs : ColumnList) (rows rs : List Row) → Rises cs → field_in g cs ≡ None → RowsFit cs rows → RowsFit cs rs →
    RowsFit (with_group g ns cs) (map (grouped_row ns g rows) rs)
all_grouped ns g cs rows [] rising e h f = tt
all_grouped ns g cs rows (r ∷ rs) rising e h f = (grouped_row_fits ns g cs rows r rising e h f.0, all_grouped ns g cs rows rs rising e h f.1)

-- the names of keys and of groups that stand as texts are those of the columns
names_split : (a : Around) (ts : Terms) (us : List Shape) (cs : ColumnList) (ms ns : List (List ℕ)) (g : List ℕ) → SoMany ts us → last_label (typed_pairs ts us) ≡ Some g →
    names_there (before_last (typed_pairs ts us)) cs ≡ Ok ms → AreNames (meanings ts) a ns → (before_last ns ≡ ms) × (last_name ns ≡ g)
names_split a nil [] cs ms ns g m l e k = absurd cc
names_split a (cons t nil) (u ∷ []) cs ms (n ∷ []) g m l e k = (ok_is [] ms e, name_is t a g n l k.0)
names_split a (cons t (cons t' ts)) (u ∷ u' ∷ us) cs ms (n ∷ n' ∷ ns) g m l e k =
    let x = label_ok (label_of t) _ ms e in
    let y = then_ok (if_there (field_in x.0 cs)) _ ms x.2 in
    let z = then_ok (names_there (before_last (typed_pairs (cons t' ts) (u' ∷ us))) cs) _ ms y.2 in
    let rest = names_split a (cons t' ts) (u' ∷ us) cs z.0 (n' ∷ ns) g m l z.1 k.1 in
    ((λ i. name_is t a x.0 n x.1 k.0 i ∷ rest.0 i) ∙ ok_is (x.0 ∷ z.0) ms z.2, rest.1)
names_split a (cons t nil) (u ∷ []) cs ms [] g m l e k = absurd k
names_split a (cons t nil) (u ∷ []) cs ms (n ∷ n' ∷ ns) g m l e k = absurd k.1
names_split a (cons t (cons t' ts)) (u ∷ u' ∷ us) cs ms [] g m l e k = absurd k
names_split a (cons t (cons t' ts)) (u ∷ u' ∷ us) cs ms (n ∷ []) g m l e k = absurd k.1
names_split a nil (u ∷ us) cs ms ns g m l e k = absurd m
names_split a (cons t ts) [] cs ms ns g m l e k = absurd m
names_split a (cons t nil) (u ∷ u' ∷ us) cs ms ns g m l e k = absurd m
names_split a (cons t (cons t' ts)) (u ∷ []) cs ms ns g m l e k = absurd m

pub grouped_rows : (a : Around) (ts : Terms) (us : List Shape) (cs es : ColumnList) (ns : List (List ℕ)) (rows : List Row) → SoMany ts us → Rises cs →
    grouped (typed_pairs ts us) cs ≡ Ok es → AreNames (meanings ts) a ns → RowsFit cs rows →
    RowsFit es (map (grouped_row (before_last ns) (last_name ns) rows) (firsts_of (before_last ns) rows))
grouped_rows a ts us cs es ns rows m rising e k h =
    let g = label_ok (last_label (typed_pairs ts us)) _ es e in
    let y = then_ok (if_free (field_in g.0 cs) cs) (λ ds. grouped_by g.0 (before_last (typed_pairs ts us)) ds) es g.2 in
    let z = free_ok (field_in g.0 cs) cs y.0 y.1 in
    by_test (are_keys (before_last (typed_pairs ts us)) y.0) g.0 y.0 g.1 (subst (λ ds. field_in g.0 ds ≡ None) z.1 z.0) (subst Rises z.1 rising)
    (subst (λ ds. RowsFit ds rows) z.1 h) y.2
  where
    by_test : (b : Bool) (g : List ℕ) (ds : ColumnList) → last_label (typed_pairs ts us) ≡ Some g → field_in g ds ≡ None → Rises ds → RowsFit ds rows →
        (if b then and_then (names_there (before_last (typed_pairs ts us)) ds) (λ ms. Ok (with_group g ms ds)) else Err 6) ≡ Ok es →
        RowsFit es (map (grouped_row (before_last ns) (last_name ns) rows) (firsts_of (before_last ns) rows))
    by_test true g ds l free rise f q =
        let n = then_ok (names_there (before_last (typed_pairs ts us)) ds) (λ ms. Ok (with_group g ms ds)) es q in
        let s = names_split a ts us ds n.0 ns g m l n.1 k in
        let P : ColumnList → Type 0 = λ w. RowsFit w (map (grouped_row (before_last ns) (last_name ns) rows) (firsts_of (before_last ns) rows)) in
        let Q : List (List ℕ) → Type 0 = λ ms. RowsFit (with_group g n.0 ds) (map (grouped_row ms (last_name ns) rows) (firsts_of ms rows)) in
        let R : List ℕ → Type 0 = λ x. RowsFit (with_group g n.0 ds) (map (grouped_row n.0 x rows) (firsts_of n.0 rows)) in
        subst P (ok_is (with_group g n.0 ds) es n.2)
        (subst Q (sym s.0) (subst R (sym s.1) (all_grouped n.0 g ds rows (firsts_of n.0 rows) rise free f (firsts_fit n.0 ds rows f))))
    by_test false g ds l free rise f q = absurd cc

-- ---- rows out of their groups

-- the value of a column's field fits its type
pub value_fits : (n : List ℕ) (r : Row) (cs : ColumnList) (t : Shape) → RowFits cs r → field_in n cs ≡ Some t → fits_in (value_of n r) t ≡ true
value_fits n [] no_columns t h e = absurd cc
value_fits n [] (column m u cs) t h e = absurd cc
value_fits n (x ∷ r) no_columns t h e = absurd cc
value_fits n (x ∷ r) (column m u cs) t h e =
    let P : List ℕ → Type 0 = λ z. (if bytes_eq z n then Some u else field_in n cs) ≡ Some t in
    by (λ q. value_fits n r cs t (rest_fits x.0 m x.1 u (field_list r) cs h) q) (bytes_eq x.0 n) (subst P (sym (name_fits x.0 m x.1 u (field_list r) cs h)) e)
  where
    by : (field_in n cs ≡ Some t → fits_in (value_of n r) t ≡ true) → (b : Bool) → (if b then Some u else field_in n cs) ≡ Some t →
        fits_in (unwrap_or (if b then Some x.1 else item_named n r) blank) t ≡ true
    by more true q =
        let same : u ≡ t = cc in
        let G : Shape → Type 0 = λ s. fits_in x.1 s ≡ true in
        subst G same (first_fits x.0 m x.1 u (field_list r) cs h)
    by more false q = more q

pub without_fits : (g : List ℕ) (cs : ColumnList) (r : Row) → Rises cs → RowFits cs r → RowFits (without_column g cs) (fields_without g r)
without_fits g cs r rising h = (fit_table (without_column g cs) (without_columns (g ∷ []) (r ∷ [])) (dropped_fit (g ∷ []) (r ∷ []) cs rising (table_fits cs (r ∷ []) (h, tt)))).0

-- a name that is below others stays none of a list's names when it is put among them
put_free : (m n : List ℕ) (t : Shape) (cs : ColumnList) → slice_cmp nat_cmp n m ≡ Less → field_in m cs ≡ None → field_in m (put_column n t cs) ≡ None
put_free m n t no_columns l e = rw (apart n m l) refl
  where
    apart : (x y : List ℕ) → slice_cmp nat_cmp x y ≡ Less → bytes_eq x y ≡ false
    apart x y q = sym (is_eq-slice_cmp x y) ∙ ap is_eq q
put_free m n t (column k u cs) l e = by_order (λ f. put_free m n t cs l f) (slice_cmp nat_cmp n k) refl (bytes_eq k m) refl e
  where
    apart : bytes_eq n m ≡ false
    apart = sym (is_eq-slice_cmp n m) ∙ ap is_eq l

    by_order : (field_in m cs ≡ None → field_in m (put_column n t cs) ≡ None) → (o : Ordering) → slice_cmp nat_cmp n k ≡ o → (b : Bool) → bytes_eq k m ≡ b →
        (if b then Some u else field_in m cs) ≡ None → field_in m (match_ordering o (column n t (column k u cs)) (column k t cs) (column k u (put_column n t cs))) ≡ None
    by_order more o q true i f = absurd cc
    by_order more Less q false i f = rw (apart, i) f
    by_order more Equal q false i f = rw i f
    by_order more Greater q false i f = rw i (more f)

shared_put : (n : List ℕ) (t : Shape) (ds cs : ColumnList) → Under n ds → first_shared ds cs ≡ None → first_shared ds (put_column n t cs) ≡ None
shared_put n t no_columns cs u e = refl
shared_put n t (column m s ds) cs u e = by (λ f. shared_put n t ds cs u.1 f) (field_in m cs) refl e
  where
    by : (first_shared ds cs ≡ None → first_shared ds (put_column n t cs) ≡ None) → (o : Option Shape) → field_in m cs ≡ o → (if is_some o then Some m else first_shared ds cs) ≡ None →
        first_shared (column m s ds) (put_column n t cs) ≡ None
    by more (Some w) i f = absurd cc
    by more None i f = ap (λ o. if is_some o then Some m else first_shared ds (put_column n t cs)) (put_free m n t cs u.0 i) ∙ more f

fields_fit_in : (s r : Row) (ds cs : ColumnList) → Rises ds → first_shared ds cs ≡ None → RowFits ds s → RowFits cs r → RowFits (joined_columns ds cs) (with_fields s r)
fields_fit_in [] r no_columns cs rising e h f = f
fields_fit_in [] r (column m t ds) cs rising e h f = absurd cc
fields_fit_in (x ∷ s) r no_columns cs rising e h f = absurd cc
fields_fit_in (x ∷ s) r (column m t ds) cs rising e h f =
    by (λ q k. fields_fit_in s (with_field x.0 x.1 r) ds (put_column m t cs) rising.1 q (rest_fits x.0 m x.1 t (field_list s) ds h) k) (field_in m cs) refl e
  where
    by : (first_shared ds (put_column m t cs) ≡ None → RowFits (put_column m t cs) (with_field x.0 x.1 r) → RowFits (joined_columns ds (put_column m t cs)) (with_fields s (with_field x.0 x.1 r))) →
        (o : Option Shape) → field_in m cs ≡ o → (if is_some o then Some m else first_shared ds cs) ≡ None → RowFits (joined_columns ds (put_column m t cs)) (with_fields s (with_field x.0 x.1 r))
    by more (Some w) i q = absurd cc
    by more None i q =
        let P : List ℕ → Type 0 = λ z. RowFits (put_column m t cs) (with_field z x.1 r) in
        let placed = with_fit m x.1 t r cs (first_fits x.0 m x.1 t (field_list s) ds h) f i in
        more (shared_put m t ds cs rising.0 q) (subst P (sym (name_fits x.0 m x.1 t (field_list s) ds h)) placed)

all_joined : (ss : List Row) (r : Row) (ds cs : ColumnList) → Rises ds → first_shared ds cs ≡ None → RowsFit ds ss → RowFits cs r →
    RowsFit (joined_columns ds cs) (map (λ s. with_fields s r) ss)
all_joined [] r ds cs rising e h f = tt
all_joined (s ∷ ss) r ds cs rising e h f = (fields_fit_in s r ds cs rising e h.0 f, all_joined ss r ds cs rising e h.1 f)

all_ungrouped : (g : List ℕ) (rows : List Row) (ds cs : ColumnList) → Rises ds → Rises cs → field_in g cs ≡ Some (tables ds) → first_shared ds (without_column g cs) ≡ None →
    RowsFit cs rows → RowsFit (joined_columns ds (without_column g cs)) (flat_map (rows_under g) rows)
all_ungrouped g [] ds cs rising rise i e h = tt
all_ungrouped g (r ∷ rows) ds cs rising rise i e h =
    more_fit (joined_columns ds (without_column g cs)) (rows_under g r) (flat_map (rows_under g) rows)
    (all_joined (rows_in (value_of g r)) (fields_without g r) ds (without_column g cs) rising e (rows_in_fit (value_of g r) ds (value_fits g r cs (tables ds) h.0 i)) (without_fits g cs r rise h.0))
    (all_ungrouped g rows ds cs rising rise i e h.1)

pub ungrouped_rows : (a : Around) (ts : Terms) (us : List Shape) (cs es : ColumnList) (ns : List (List ℕ)) (rows : List Row) → SoMany ts us → Rises cs →
    ((g : List ℕ) (ds : ColumnList) → field_in g cs ≡ Some (tables ds) → Rises ds) →
    ungrouped (typed_pairs ts us) cs ≡ Ok es → AreNames (meanings ts) a ns → RowsFit cs rows → RowsFit es (flat_map (rows_under (last_name ns)) rows)
ungrouped_rows a (cons t nil) (u ∷ []) cs es (n ∷ []) rows m rise inner e k h =
    let g = label_ok (label_of t) _ es e in
    let w = then_ok (if_there (field_in g.0 cs)) _ es g.2 in
    let named : n ≡ g.0 = name_is t a g.0 n g.1 k.0 in
    let P : List ℕ → Type 0 = λ x. RowsFit es (flat_map (rows_under x) rows) in
    subst P (sym named) (by_type g.0 w.0 (there_ok (field_in g.0 cs) w.0 w.1) w.2)
  where
    by_shared : (g : List ℕ) (ds : ColumnList) (o : Option (List ℕ)) → field_in g cs ≡ Some (tables ds) → first_shared ds (without_column g cs) ≡ o →
        (if is_some o then Err rules.name_twice else Ok (joined_columns ds (without_column g cs))) ≡ Ok es → RowsFit es (flat_map (rows_under g) rows)
    by_shared g ds (Some x) i j q = absurd cc
    by_shared g ds None i j q =
        let P : ColumnList → Type 0 = λ x. RowsFit x (flat_map (rows_under g) rows) in
        subst P (ok_is (joined_columns ds (without_column g cs)) es q) (all_ungrouped g rows ds cs (inner g ds i) rise i j h)

    by_type : (g : List ℕ) (s : Shape) → field_in g cs ≡ Some s → out_of s (without_column g cs) ≡ Ok es → RowsFit es (flat_map (rows_under g) rows)
    by_type g (tables ds) i q = by_shared g ds (first_shared ds (without_column g cs)) i refl q
    by_type g s i q = absurd cc
ungrouped_rows a (cons t nil) (u ∷ []) cs es [] rows m rise inner e k h = absurd k
ungrouped_rows a (cons t nil) (u ∷ []) cs es (n ∷ n' ∷ ns) rows m rise inner e k h = absurd k.1
ungrouped_rows a nil [] cs es ns rows m rise inner e k h = absurd cc
ungrouped_rows a nil (u ∷ us) cs es ns rows m rise inner e k h = absurd m
ungrouped_rows a (cons t ts) [] cs es ns rows m rise inner e k h = absurd m
ungrouped_rows a (cons t nil) (u ∷ u' ∷ us) cs es ns rows m rise inner e k h = absurd m
ungrouped_rows a (cons t (cons t' ts)) (u ∷ []) cs es ns rows m rise inner e k h = absurd m
ungrouped_rows a (cons t (cons t' ts)) (u ∷ u' ∷ us) cs es ns rows m rise inner e k h = absurd cc
