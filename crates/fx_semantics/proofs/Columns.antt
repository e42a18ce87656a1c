-- Rows fit the columns that functions of columns make.
use Rattle.std.proofs.Common.{◌≡◌, ℕ, List, [], ◌∷◌, map, Bool, true, false, Option, Some, None, Result, Ok, Err, refl, ap, sym, subst, ◌∙◌}
use Rattle.std.specs.Prelude.{bytes_eq, if◌then◌else◌}
use Rattle.std.specs.Ordering.{nat_cmp, is_eq, is_lt, match_ordering}
use Rattle.std.specs.Cmp.Lexicographic.{slice_cmp}
use Rattle.std.specs.declared.cmp.Ordering.{Ordering}
use Rattle.std.specs.declared.cmp.Ordering.TheVariants.{Less, Equal, Greater}
use Rattle.std.proofs.lemmas.List.Elements.{All-nil, All-cons}
use Rattle.std.proofs.lemmas.Map.Text.{is_eq-slice_cmp}
use Rattle.fx_types.specs.Lookup.{item_named}
use Rattle.fx_types.specs.Types.{Shape, tables, ColumnList, no_columns, column}
use Rattle.fx_types.specs.Values.{Data, text, field_list}
use Rattle.fx_core.specs.SourceTypes.{put_column}
use Rattle.fx_tables.proofs.FitColumns.{all_renamed_fit, dropped_fit, rows_only_fit, rises_put}
use Rattle.fx_tables.specs.AggregateCalls.{characters_in}
use Rattle.fx_tables.specs.ColumnCalls.{in_turn, renamed_columns, without_columns}
use Rattle.fx_value.specs.Columns.{LacksColumn, Row, fields_only, field_renamed, rows_with_column, with_field}
use Rattle.fx_tables.proofs.FitRows.{RowFits}
use Rattle.fx_core.specs.Term.{Term, Terms, of, nil, cons, const}
use Rattle.fx_typing.specs.Columns.{by_label, dropped, label_of, names_there, columns_shown}
use Rattle.fx_core.specs.ColumnLists.{and_then, field_in, if_free, if_there, with_renamed}
use Rattle.fx_typing.specs.Columns as columns
use Rattle.fx_core.specs.ColumnLists as lists
use Rattle.fx_typing.specs.WellTyped.{typed_pairs}
use Rattle.fx_typing.proofs.Operators.{then_ok}
use Rattle.fx_value.proofs.Unions.{Under, Rises}
use Rattle.fx_value.proofs.Widenings.{own_name, same_name}
use Rattle.fx_value.specs.Fits.{fits_in, fields_fit}
use Rattle.fx_semantics.specs.Around.{Around}
use Rattle.fx_semantics.specs.Fresh.{meaning, meanings}
use Rattle.fx_semantics.specs.Rows.{AreNames, AreRenamings, table_of}
use Rattle.fx_semantics.specs.Sound.{AreLawfulColumns, IsBelowColumns}
use Rattle.fx_semantics.proofs.Fields.{name_fits, first_fits, rest_fits, all_fit}
use Rattle.fx_semantics.proofs.Tables.{RowsFit, AllFit, fit_table, table_fits}

-- ---- one row

-- a new field at its place
pub with_fit : (n : List ℕ) (d : Data) (t : Shape) (r : Row) (cs : ColumnList) → fits_in d t ≡ true → RowFits cs r → field_in n cs ≡ None →
    RowFits (put_column n t cs) (with_field n d r)
with_fit n d t [] no_columns f h e = all_fit n d t (field_list []) no_columns f refl
with_fit n d t [] (column m u cs) f h e = cc
with_fit n d t (x ∷ xs) no_columns f h e = cc
with_fit n d t (x ∷ xs) (column m u cs) f h e =
    let P : List ℕ → Type 0 = λ z. (if bytes_eq z n then Some u else field_in n cs) ≡ None →
    fields_fit (field_list (if is_lt (slice_cmp nat_cmp n x.0) then (n, d) ∷ x ∷ xs else x ∷ with_field n d xs))
    (match_ordering (slice_cmp nat_cmp n z) (column n t (column z u cs)) (column z t cs) (column z u (put_column n t cs))) ≡ true in
    subst P (name_fits x.0 m x.1 u (field_list xs) cs h) (λ q. by (λ z. with_fit n d t xs cs f (rest_fits x.0 m x.1 u (field_list xs) cs h) z) (slice_cmp nat_cmp n x.0) refl (bytes_eq x.0 n) refl q) e
  where
    own : fields_fit (field_list (x ∷ xs)) (column x.0 u cs) ≡ true
    own = all_fit x.0 x.1 u (field_list xs) cs (first_fits x.0 m x.1 u (field_list xs) cs h) (rest_fits x.0 m x.1 u (field_list xs) cs h)

    equal : slice_cmp nat_cmp n x.0 ≡ Equal → bytes_eq x.0 n ≡ true
    equal o =
        let k : bytes_eq n x.0 ≡ true = sym (is_eq-slice_cmp n x.0) ∙ ap is_eq o in
        let Q : List ℕ → Type 0 = λ z. bytes_eq z n ≡ true in
        subst Q (same_name n x.0 k) (own_name n)

    by : (field_in n cs ≡ None → RowFits (put_column n t cs) (with_field n d xs)) → (o : Ordering) → slice_cmp nat_cmp n x.0 ≡ o → (b : Bool) → bytes_eq x.0 n ≡ b → (if b then Some u else field_in n cs) ≡ None →
        fields_fit (field_list (if is_lt o then (n, d) ∷ x ∷ xs else x ∷ with_field n d xs))
        (match_ordering o (column n t (column x.0 u cs)) (column x.0 t cs) (column x.0 u (put_column n t cs))) ≡ true
    by more o k true j q = cc
    by more Less k false j q = all_fit n d t (field_list (x ∷ xs)) (column x.0 u cs) f own
    by more Equal k false j q = let z : true ≡ false = sym (equal k) ∙ j in cc
    by more Greater k false j q =
        all_fit x.0 x.1 u (field_list (with_field n d xs)) (put_column n t cs) (first_fits x.0 m x.1 u (field_list xs) cs h) (more q)

-- a name that no column has is that of no field
pub lacks : (n : List ℕ) (r : Row) (cs : ColumnList) → RowFits cs r → field_in n cs ≡ None → item_named n r ≡ None
lacks n [] cs h e = refl
lacks n (x ∷ r) no_columns h e = cc
lacks n (x ∷ r) (column m t cs) h e =
    let P : List ℕ → Type 0 = λ z. (if bytes_eq z n then Some t else field_in n cs) ≡ None in
    by (bytes_eq x.0 n) (subst P (sym (name_fits x.0 m x.1 t (field_list r) cs h)) e) (λ q. lacks n r cs (rest_fits x.0 m x.1 t (field_list r) cs h) q)
  where
    by : (b : Bool) → (if b then Some t else field_in n cs) ≡ None → (field_in n cs ≡ None → item_named n r ≡ None) → (if b then Some x.1 else item_named n r) ≡ None
    by true q k = cc
    by false q k = k q

-- ---- columns keep rising

under_of : (n : List ℕ) (cs : ColumnList) → IsBelowColumns n cs → Under n cs
under_of n no_columns u = tt
under_of n (column m t cs) u = (u.0, under_of n cs u.1)

pub rises_of : (cs : ColumnList) → AreLawfulColumns cs → Rises cs
rises_of no_columns l = tt
rises_of (column n t cs) l = (under_of n cs l.0, rises_of cs l.2)

under_without : (k n : List ℕ) (cs : ColumnList) → Under k cs → Under k (lists.columns_without n cs)
under_without k n no_columns u = tt
under_without k n (column m t cs) u = by (bytes_eq m n) (under_without k n cs u.1)
  where
    by : (b : Bool) → Under k (lists.columns_without n cs) → Under k (if b then cs else column m t (lists.columns_without n cs))
    by true w = u.1
    by false w = (u.0, w)

pub rises_without : (n : List ℕ) (cs : ColumnList) → Rises cs → Rises (lists.columns_without n cs)
rises_without n no_columns r = tt
rises_without n (column m t cs) r = by (bytes_eq m n) (rises_without n cs r.1)
  where
    by : (b : Bool) → Rises (lists.columns_without n cs) → Rises (if b then cs else column m t (lists.columns_without n cs))
    by true w = r.1
    by false w = (under_without m n cs r.0, w)

-- ---- all rows

pub all_lack : (n : List ℕ) (rows : List Row) (cs : ColumnList) → RowsFit cs rows → field_in n cs ≡ None → LacksColumn n rows
all_lack n [] cs h e = All-nil (λ (z : Row). item_named n z ≡ None)
all_lack n (r ∷ rows) cs h e = All-cons (λ (z : Row). item_named n z ≡ None) r rows (lacks n r cs h.0 e) (all_lack n rows cs h.1 e)

pub with_column_fit : (n : List ℕ) (t : Shape) (cs : ColumnList) → field_in n cs ≡ None → (rows : List Row) (ds : List Data) → RowsFit cs rows → AllFit t ds →
    RowsFit (put_column n t cs) (rows_with_column n rows ds)
with_column_fit n t cs e [] [] h f = tt
with_column_fit n t cs e [] (d ∷ ds) h f = tt
with_column_fit n t cs e (r ∷ rows) [] h f = tt
with_column_fit n t cs e (r ∷ rows) (d ∷ ds) h f = (with_fit n d t r cs f.0 h.0 e, with_column_fit n t cs e rows ds h.1 f.1)

-- ---- names

-- a name that stands as a text is that text's value
pub name_is : (t : Term) (a : Around) (x n : List ℕ) → label_of t ≡ Some x → meaning t a (text n) → n ≡ x
name_is (of (const (text y)) nil) a x n e h =
    let q : y ≡ x = cc in
    let characters : Data → List ℕ = λ d. characters_in d in
    ap characters h ∙ q
name_is t a x n e h = cc

pub label_ok : {A : Type 0} (o : Option (List ℕ)) (go : List ℕ → Result A ℕ) (b : A) → by_label o go ≡ Ok b → (x : List ℕ) × (o ≡ Some x) × (go x ≡ Ok b)
label_ok (Some x) go b e = (x, refl, e)
label_ok None go b e = absurd cc

pub there_ok : (o : Option Shape) (t : Shape) → if_there o ≡ Ok t → o ≡ Some t
there_ok (Some u) t e = let q : u ≡ t = cc in ap Some q
there_ok None t e = absurd cc

pub free_ok : (o : Option Shape) (cs es : ColumnList) → if_free o cs ≡ Ok es → (o ≡ None) × (cs ≡ es)
free_ok None cs es e = (refl, cc)
free_ok (Some t) cs es e = absurd cc

-- an answer that is no broken rule
abbrev pub fine : {A : Type 0} → A → Result A ℕ
fine a = Ok a

abbrev out_of : {A : Type 0} → A → Result A ℕ → A
out_of d (Ok a) = a
out_of d (Err n) = d

pub ok_is : {A : Type 0} (a b : A) → fine a ≡ fine b → a ≡ b
ok_is a b e = ap (out_of a) e

-- the types of parts, one for each
abbrev pub SoMany : Terms → List Shape → Type 0
SoMany nil [] = Unit {0}
SoMany (cons t ts) (u ∷ us) = SoMany ts us
SoMany ts us = ⊥

names_same : (a : Around) (ts : Terms) (us : List Shape) (cs : ColumnList) (ms ns : List (List ℕ)) → SoMany ts us →
    names_there (typed_pairs ts us) cs ≡ Ok ms → AreNames (meanings ts) a ns → ns ≡ ms
names_same a nil [] cs ms [] m e k = ok_is [] ms e
names_same a (cons t ts) (u ∷ us) cs ms (n ∷ ns) m e k =
    let x = label_ok (label_of t) _ ms e in
    let y = then_ok (if_there (field_in x.0 cs)) _ ms x.2 in
    let z = then_ok (names_there (typed_pairs ts us) cs) _ ms y.2 in
    (λ i. name_is t a x.0 n x.1 k.0 i ∷ names_same a ts us cs z.0 ns m z.1 k.1 i) ∙ ok_is (x.0 ∷ z.0) ms z.2
names_same a nil [] cs ms (n ∷ ns) m e k = absurd k
names_same a (cons t ts) (u ∷ us) cs ms [] m e k = absurd k
names_same a nil (u ∷ us) cs ms ns m e k = absurd m
names_same a (cons t ts) [] cs ms ns m e k = absurd m

pub dropped_rows : (a : Around) (ts : Terms) (us : List Shape) (cs es : ColumnList) (ns : List (List ℕ)) (rows : List Row) → SoMany ts us → Rises cs →
    dropped (typed_pairs ts us) cs ≡ Ok es → AreNames (meanings ts) a ns → fits_in (table_of rows) (tables cs) ≡ true → fits_in (table_of (without_columns ns rows)) (tables es) ≡ true
dropped_rows a ts us cs es ns rows m rising e k h =
    let x = then_ok (names_there (typed_pairs ts us) cs) _ es e in
    let P : List (List ℕ) → Type 0 = λ w. fits_in (table_of (without_columns ns rows)) (tables (lists.without_all w cs)) ≡ true in
    let R : ColumnList → Type 0 = λ w. fits_in (table_of (without_columns ns rows)) (tables w) ≡ true in
    subst R (ok_is (lists.without_all x.0 cs) es x.2) (subst P (names_same a ts us cs x.0 ns m x.1 k) (dropped_fit ns rows cs rising h))

pub shown_rows : (a : Around) (ts : Terms) (us : List Shape) (cs es : ColumnList) (ns : List (List ℕ)) (rows : List Row) → SoMany ts us →
    columns_shown (typed_pairs ts us) cs ≡ Ok es → AreNames (meanings ts) a ns → fits_in (table_of rows) (tables cs) ≡ true → fits_in (table_of (map (fields_only ns) rows)) (tables es) ≡ true
shown_rows a ts us cs es ns rows m e k h =
    let x = then_ok (names_there (typed_pairs ts us) cs) _ es e in
    let P : List (List ℕ) → Type 0 = λ w. fits_in (table_of (map (fields_only ns) rows)) (tables (lists.columns_only w cs)) ≡ true in
    let R : ColumnList → Type 0 = λ w. fits_in (table_of (map (fields_only ns) rows)) (tables w) ≡ true in
    subst R (ok_is (lists.columns_only x.0 cs) es x.2) (subst P (names_same a ts us cs x.0 ns m x.1 k) (rows_only_fit ns rows cs h))

pub renamed_rows : (a : Around) (ts : Terms) (us : List Shape) (cs es : ColumnList) (ps : List (List ℕ × List ℕ)) (rows : List Row) → SoMany ts us → Rises cs →
    columns.columns_renamed (typed_pairs ts us) cs ≡ Ok es → AreRenamings (meanings ts) a ps → RowsFit cs rows → RowsFit es (renamed_columns ps rows)
renamed_rows a nil [] cs es [] rows m rising e k h = let P : ColumnList → Type 0 = λ z. RowsFit z rows in subst P (ok_is cs es e) h
renamed_rows a (cons t (cons t' ts)) (u ∷ u' ∷ us) cs es (p ∷ ps) rows m rising e k h =
    let x = label_ok (label_of t) _ es e in
    let x' = label_ok (label_of t') _ es x.2 in
    let y = then_ok (with_renamed x.0 x'.0 cs) _ es x'.2 in
    let z = then_ok (if_there (field_in x.0 cs)) _ y.0 y.1 in
    let w = free_ok (field_in x'.0 cs) _ y.0 z.2 in
    let same : p.0 ≡ x.0 = name_is t a x.0 p.0 x.1 k.0 in
    let same' : p.1 ≡ x'.0 = name_is t' a x'.0 p.1 x'.1 k.1 in
    let step : List ℕ × List ℕ → ColumnList → Result ColumnList ℕ = λ q ds. with_renamed q.0 q.1 ds in
    let go : ColumnList → Result ColumnList ℕ = λ ds. in_turn step [] ds in
    let P : List ℕ → Type 0 = λ v. RowsFit y.0 (map (field_renamed v p.1) rows) in
    let P' : List ℕ → Type 0 = λ v. RowsFit y.0 (map (field_renamed x.0 v) rows) in
    let made = all_renamed_fit ((x.0, x'.0) ∷ []) rows cs y.0 rising (all_lack x'.0 rows cs h w.0, tt) (table_fits cs rows h) (ap (λ (r : Result ColumnList ℕ). and_then r go) y.1) in
    renamed_rows a ts us y.0 es ps (map (field_renamed p.0 p.1) rows) m
    (subst Rises w.1 (rises_put x'.0 z.0 (lists.columns_without x.0 cs) (rises_without x.0 cs rising))) y.2 k.2
    (subst P (sym same) (subst P' (sym same') (fit_table y.0 (map (field_renamed x.0 x'.0) rows) made)))
renamed_rows a nil [] cs es (p ∷ ps) rows m rising e k h = absurd k
renamed_rows a (cons t nil) (u ∷ []) cs es [] rows m rising e k h = absurd k
renamed_rows a (cons t nil) (u ∷ []) cs es (p ∷ ps) rows m rising e k h = absurd k
renamed_rows a (cons t (cons t' ts)) (u ∷ u' ∷ us) cs es [] rows m rising e k h = absurd k
renamed_rows a nil (u ∷ us) cs es ps rows m rising e k h = absurd m
renamed_rows a (cons t ts) [] cs es ps rows m rising e k h = absurd m
renamed_rows a (cons t nil) (u ∷ u' ∷ us) cs es ps rows m rising e k h = absurd m
renamed_rows a (cons t (cons t' ts)) (u ∷ []) cs es ps rows m rising e k h = absurd m
