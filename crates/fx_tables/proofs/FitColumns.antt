-- Rows whose columns were changed fit the changed columns.
use Rattle.std.proofs.Common.{◌≡◌, ℕ, List, [], ◌∷◌, map, Bool, true, false, not, bytes_eq, Option, Some, None, Ok, unwrap_or, refl, sym, subst, cond, if◌then◌else◌}
use Rattle.std.specs.Prelude.{◌&&◌, ◌||◌}
use Rattle.std.specs.List.{All, list_any}
use Rattle.std.specs.Cmp.Lexicographic.{slice_cmp}
use Rattle.std.specs.Ordering.{nat_cmp, is_lt, match_ordering}
use Rattle.std.specs.declared.cmp.Ordering.{Ordering}
use Rattle.std.specs.declared.cmp.Ordering.TheVariants.{Less, Equal, Greater}
use Rattle.std.proofs.lemmas.Cmp.{nat_list_cmp_total}
use Rattle.std.proofs.lemmas.List.Elements.{All-head, All-tail}
use Rattle.std.proofs.lemmas.Map.Lookups.{exact_bytes}
use Rattle.std.proofs.lemmas.Bool.{and_from}
use Rattle.fx_types.specs.Lookup.{item_named}
use Rattle.fx_types.specs.Rising.{IsBelow}
use Rattle.fx_types.specs.Types.{Shape, ColumnList, no_columns, column}
use Rattle.fx_types.specs.Values.{Data, blank, field_list, row_list}
use Rattle.fx_types.proofs.Utf8Order.{and_second, and_first}
use Rattle.fx_core.specs.SourceTypes.{put_column}
use Rattle.fx_value.specs.Fits.{fits_in, fields_fit, rows_fit}
use Rattle.fx_value.proofs.Unions.{Rises, Under, below}
use Rattle.fx_value.proofs.Widenings.{own_name, same_name}
use Rattle.fx_value.specs.Columns.{LacksColumn, Row, fields_only, field_renamed, rows_with_column, with_field, fields_without}
use Rattle.fx_tables.proofs.ColumnSteps.{lacking_rest, lacks_without, lacks_rest, lacks_first, not_below_itself}
use Rattle.fx_core.specs.ColumnLists.{and_then, field_in, if_free, if_there, is_one_of, with_new, with_renamed, without_all}
use Rattle.fx_core.specs.ColumnLists.{columns_only as only_columns, columns_without as without_column}
use Rattle.fx_tables.specs.ColumnCalls.{AreOfTypes, CanAddColumns, CanRename, in_turn, renamed_columns, with_columns, without_columns}

-- ---- names

-- a name above another is another
apart : (n m : List ℕ) → IsBelow n m → bytes_eq m n ≡ false
apart n m h = by (bytes_eq m n) refl
  where
    by : (b : Bool) → bytes_eq m n ≡ b → b ≡ false
    by true e = let P : List ℕ → Type 0 = λ z. IsBelow n z in absurd (not_below_itself n (subst P (same_name m n e) h))
    by false e = refl

-- the same either way
names_alike : (n m : List ℕ) → bytes_eq n m ≡ bytes_eq m n
names_alike n m = by (bytes_eq n m) (bytes_eq m n) refl refl
  where
    by : (a b : Bool) → bytes_eq n m ≡ a → bytes_eq m n ≡ b → a ≡ b
    by true true p q = refl
    by false false p q = refl
    by true false p q =
        let P : List ℕ → Type 0 = λ z. bytes_eq z n ≡ true in
        let same = subst P (same_name n m p) (own_name n) in
        cc
    by false true p q =
        let P : List ℕ → Type 0 = λ z. bytes_eq z m ≡ true in
        let same = subst P (same_name m n q) (own_name m) in
        cc

-- ---- one field and one column

abbrev RowFits : Row → ColumnList → Type 0
RowFits r cs = fields_fit (field_list r) cs ≡ true

first_name : (x : List ℕ × Data) (r : Row) (m : List ℕ) (t : Shape) (cs : ColumnList) → RowFits (x ∷ r) (column m t cs) → x.0 ≡ m
first_name x r m t cs h = same_name x.0 m (and_first (bytes_eq x.0 m) (fits_in x.1 t && fields_fit (field_list r) cs) h)

first_value : (x : List ℕ × Data) (r : Row) (m : List ℕ) (t : Shape) (cs : ColumnList) → RowFits (x ∷ r) (column m t cs) → fits_in x.1 t ≡ true
first_value x r m t cs h = and_first (fits_in x.1 t) (fields_fit (field_list r) cs) (and_second (bytes_eq x.0 m) (fits_in x.1 t && fields_fit (field_list r) cs) h)

other_fields : (x : List ℕ × Data) (r : Row) (m : List ℕ) (t : Shape) (cs : ColumnList) → RowFits (x ∷ r) (column m t cs) → RowFits r cs
other_fields x r m t cs h = and_second (fits_in x.1 t) (fields_fit (field_list r) cs) (and_second (bytes_eq x.0 m) (fits_in x.1 t && fields_fit (field_list r) cs) h)

one_more : (x : List ℕ × Data) (r : Row) (t : Shape) (cs : ColumnList) → fits_in x.1 t ≡ true → RowFits r cs → RowFits (x ∷ r) (column x.0 t cs)
one_more x r t cs v h = and_from (bytes_eq x.0 x.0) (fits_in x.1 t && fields_fit (field_list r) cs) (own_name x.0) (and_from (fits_in x.1 t) (fields_fit (field_list r) cs) v h)

-- a new field among the others
with_field_fits : (n : List ℕ) (d : Data) (u : Shape) (r : Row) (cs : ColumnList) → RowFits r cs → item_named n r ≡ None → fits_in d u ≡ true → RowFits (with_field n d r) (put_column n u cs)
with_field_fits n d u [] no_columns h l f = one_more (n, d) [] u no_columns f refl
with_field_fits n d u [] (column m t cs) h l f = cc
with_field_fits n d u (x ∷ r) no_columns h l f = cc
with_field_fits n d u (x ∷ r) (column m t cs) h l f =
    let P : List ℕ → Type 0 = λ z. RowFits (with_field n d (x ∷ r)) (put_column n u (column z t cs)) in
    let value = first_value x r m t cs h in
    let rest = other_fields x r m t cs h in
    subst P (first_name x r m t cs h) (by (slice_cmp nat_cmp n x.0) refl value rest (with_field_fits n d u r cs rest (lacks_rest n x r l) f))
  where
    by : (o : Ordering) → slice_cmp nat_cmp n x.0 ≡ o → fits_in x.1 t ≡ true → RowFits r cs → RowFits (with_field n d r) (put_column n u cs) → RowFits (if is_lt o then (n, d) ∷ x ∷ r else x ∷ with_field n d r) (match_ordering o (column n u (column x.0 t cs)) (column x.0 u cs) (column x.0 t (put_column n u cs)))
    by Less e v k w = one_more (n, d) (x ∷ r) u (column x.0 t cs) f (one_more x r t cs v k)
    by Equal e v k w =
        let Q : List ℕ → Type 0 = λ z. bytes_eq x.0 z ≡ true in
        let own = subst Q (sym (exact_bytes n x.0 e)) (own_name x.0) in
        let other = lacks_first n x r l in
        cc
    by Greater e v k w = one_more x (with_field n d r) t (put_column n u cs) v w

-- a name below all columns is none of a row that fits them
under_lacks : (n : List ℕ) (r : Row) (cs : ColumnList) → Under n cs → RowFits r cs → item_named n r ≡ None
under_lacks n [] cs u h = refl
under_lacks n (x ∷ r) no_columns u h = cc
under_lacks n (x ∷ r) (column m t cs) u h =
    let P : List ℕ → Type 0 = λ z. bytes_eq z n ≡ false in
    by (bytes_eq x.0 n) (subst P (sym (first_name x r m t cs h)) (apart n m u.0)) (under_lacks n r cs u.1 (other_fields x r m t cs h))
  where
    by : (b : Bool) → b ≡ false → item_named n r ≡ None → (if b then Some x.1 else item_named n r) ≡ None
    by true e k = cc
    by false e k = k

-- a field less
without_fits : (n : List ℕ) (r : Row) (cs : ColumnList) → Rises cs → RowFits r cs → RowFits (fields_without n r) (without_column n cs)
without_fits n [] no_columns rising h = refl
without_fits n [] (column m t cs) rising h = cc
without_fits n (x ∷ r) no_columns rising h = cc
without_fits n (x ∷ r) (column m t cs) rising h =
    let P : List ℕ → Type 0 = λ z. RowFits (fields_without n (x ∷ r)) (without_column n (column z t cs)) in
    let name = first_name x r m t cs h in
    let rest = other_fields x r m t cs h in
    let U : List ℕ → Type 0 = λ z. Under z cs in
    subst P name (by (bytes_eq x.0 n) refl (subst U (sym name) rising.0) (first_value x r m t cs h) rest (without_fits n r cs rising.1 rest))
  where
    by : (b : Bool) → bytes_eq x.0 n ≡ b → Under x.0 cs → fits_in x.1 t ≡ true → RowFits r cs → RowFits (fields_without n r) (without_column n cs) → RowFits (cond (not b) (x ∷ fields_without n r) (fields_without n r)) (if b then cs else column x.0 t (without_column n cs))
    by true e u v k w =
        let U : List ℕ → Type 0 = λ z. Under z cs in
        let Q : Row → Type 0 = λ z. RowFits z cs in
        subst Q (lacking_rest n r (under_lacks n r cs (subst U (same_name x.0 n e) u) k)) k
    by false e u v k w = one_more x (fields_without n r) t (without_column n cs) v w

-- whether a name is among names
is_among : (x : List ℕ) (ns : List (List ℕ)) → list_any (bytes_eq x) ns ≡ is_one_of x ns
is_among x [] = refl
is_among x (n ∷ ns) = λ i. names_alike x n i || is_among x ns i

-- the fields of some names alone
only_fits : (ns : List (List ℕ)) (r : Row) (cs : ColumnList) → RowFits r cs → RowFits (fields_only ns r) (only_columns ns cs)
only_fits ns [] no_columns h = refl
only_fits ns [] (column m t cs) h = cc
only_fits ns (x ∷ r) no_columns h = cc
only_fits ns (x ∷ r) (column m t cs) h =
    let P : List ℕ → Type 0 = λ z. RowFits (fields_only ns (x ∷ r)) (only_columns ns (column z t cs)) in
    let Q : Bool → Type 0 = λ b. RowFits (fields_only ns (x ∷ r)) (if b then column x.0 t (only_columns ns cs) else only_columns ns cs) in
    subst P (first_name x r m t cs h) (subst Q (is_among x.0 ns) (by (list_any (bytes_eq x.0) ns) (first_value x r m t cs h) (only_fits ns r cs (other_fields x r m t cs h))))
  where
    by : (b : Bool) → fits_in x.1 t ≡ true → RowFits (fields_only ns r) (only_columns ns cs) → RowFits (cond b (x ∷ fields_only ns r) (fields_only ns r)) (if b then column x.0 t (only_columns ns cs) else only_columns ns cs)
    by true v w = one_more x (fields_only ns r) t (only_columns ns cs) v w
    by false v w = w

-- the value of a field fits the type of its column
item_fits : (n : List ℕ) (u : Shape) (r : Row) (cs : ColumnList) → RowFits r cs → field_in n cs ≡ Some u → fits_in (unwrap_or (item_named n r) blank) u ≡ true
item_fits n u [] no_columns h e = cc
item_fits n u [] (column m t cs) h e = cc
item_fits n u (x ∷ r) no_columns h e = cc
item_fits n u (x ∷ r) (column m t cs) h e =
    let P : List ℕ → Type 0 = λ z. field_in n (column z t cs) ≡ Some u in
    by (bytes_eq x.0 n) (subst P (sym (first_name x r m t cs h)) e) (first_value x r m t cs h) (λ k. item_fits n u r cs (other_fields x r m t cs h) k)
  where
    by : (b : Bool) → (if b then Some t else field_in n cs) ≡ Some u → fits_in x.1 t ≡ true → (field_in n cs ≡ Some u → fits_in (unwrap_or (item_named n r) blank) u ≡ true) → fits_in (unwrap_or (if b then Some x.1 else item_named n r) blank) u ≡ true
    by true q v k = let same : t ≡ u = cc in let Q : Shape → Type 0 = λ z. fits_in x.1 z ≡ true in subst Q same v
    by false q v k = k q

renamed_fits : (n m : List ℕ) (u : Shape) (r : Row) (cs : ColumnList) → Rises cs → RowFits r cs → item_named m r ≡ None → field_in n cs ≡ Some u → RowFits (field_renamed n m r) (put_column m u (without_column n cs))
renamed_fits n m u r cs rising h l e =
    with_field_fits m (unwrap_or (item_named n r) blank) u (fields_without n r) (without_column n cs) (without_fits n r cs rising h) (lacks_without m n r l) (item_fits n u r cs h e)

-- ---- columns keep rising

under_without : (k n : List ℕ) (cs : ColumnList) → Under k cs → Under k (without_column n cs)
under_without k n no_columns u = tt
under_without k n (column m t cs) u = by (bytes_eq m n) (under_without k n cs u.1)
  where
    by : (b : Bool) → Under k (without_column n cs) → Under k (if b then cs else column m t (without_column n cs))
    by true w = u.1
    by false w = (u.0, w)

rises_without : (n : List ℕ) (cs : ColumnList) → Rises cs → Rises (without_column n cs)
rises_without n no_columns r = tt
rises_without n (column m t cs) r = by (bytes_eq m n) (rises_without n cs r.1)
  where
    by : (b : Bool) → Rises (without_column n cs) → Rises (if b then cs else column m t (without_column n cs))
    by true w = r.1
    by false w = (under_without m n cs r.0, w)

pub under_further : (k n : List ℕ) (cs : ColumnList) → IsBelow k n → Under n cs → Under k cs
under_further k n no_columns l u = tt
under_further k n (column m t cs) l u = (nat_list_cmp_total.trans k n m l u.0, under_further k n cs l u.1)

pub under_put : (k n : List ℕ) (u : Shape) (cs : ColumnList) → IsBelow k n → Under k cs → Under k (put_column n u cs)
under_put k n u no_columns l w = (l, tt)
under_put k n u (column m t cs) l w = by (slice_cmp nat_cmp n m) (under_put k n u cs l w.1)
  where
    by : (o : Ordering) → Under k (put_column n u cs) → Under k (match_ordering o (column n u (column m t cs)) (column m u cs) (column m t (put_column n u cs)))
    by Less z = (l, w)
    by Equal z = w
    by Greater z = (w.0, z)

pub rises_put : (n : List ℕ) (u : Shape) (cs : ColumnList) → Rises cs → Rises (put_column n u cs)
rises_put n u no_columns r = (tt, tt)
rises_put n u (column m t cs) r = by (slice_cmp nat_cmp n m) refl (rises_put n u cs r.1)
  where
    by : (o : Ordering) → slice_cmp nat_cmp n m ≡ o → Rises (put_column n u cs) → Rises (match_ordering o (column n u (column m t cs)) (column m u cs) (column m t (put_column n u cs)))
    by Less e z = ((e, under_further n m cs e r.0), r)
    by Equal e z = r
    by Greater e z = (under_put m n u cs (below m n e) r.0, z)

-- ---- rows

abbrev AllFit : List Row → ColumnList → Type 0
AllFit rows cs = rows_fit (row_list rows) cs ≡ true

first_row_fits : (r : Row) (rs : List Row) (cs : ColumnList) → AllFit (r ∷ rs) cs → RowFits r cs
first_row_fits r rs cs h = and_first (fields_fit (field_list r) cs) (rows_fit (row_list rs) cs) h

other_rows_fit : (r : Row) (rs : List Row) (cs : ColumnList) → AllFit (r ∷ rs) cs → AllFit rs cs
other_rows_fit r rs cs h = and_second (fields_fit (field_list r) cs) (rows_fit (row_list rs) cs) h

-- rows that are each changed alike
mapped_fit : (f : Row → Row) (cs ds : ColumnList) → ((r : Row) → RowFits r cs → RowFits (f r) ds) → (rows : List Row) → AllFit rows cs → AllFit (map f rows) ds
mapped_fit f cs ds k [] h = refl
mapped_fit f cs ds k (r ∷ rs) h =
    and_from (fields_fit (field_list (f r)) ds) (rows_fit (row_list (map f rs)) ds) (k r (first_row_fits r rs cs h)) (mapped_fit f cs ds k rs (other_rows_fit r rs cs h))

pub rows_only_fit : (ns : List (List ℕ)) (rows : List Row) (cs : ColumnList) → AllFit rows cs → AllFit (map (fields_only ns) rows) (only_columns ns cs)
rows_only_fit ns rows cs h = mapped_fit (fields_only ns) cs (only_columns ns cs) (λ r k. only_fits ns r cs k) rows h

with_column_fits : (n : List ℕ) (u : Shape) (rows : List Row) (vs : List Data) (cs : ColumnList) → AllFit rows cs → LacksColumn n rows → All (λ d. fits_in d u ≡ true) vs → AllFit (rows_with_column n rows vs) (put_column n u cs)
with_column_fits n u [] [] cs h l f = refl
with_column_fits n u [] (v ∷ vs) cs h l f = refl
with_column_fits n u (r ∷ rs) [] cs h l f = refl
with_column_fits n u (r ∷ rs) (v ∷ vs) cs h l f =
    and_from (fields_fit (field_list (with_field n v r)) (put_column n u cs)) (rows_fit (row_list (rows_with_column n rs vs)) (put_column n u cs))
    (with_field_fits n v u r cs (first_row_fits r rs cs h) (All-head (λ (z : Row). item_named n z ≡ None) r rs l) (All-head (λ d. fits_in d u ≡ true) v vs f))
    (with_column_fits n u rs vs cs (other_rows_fit r rs cs h) (All-tail (λ (z : Row). item_named n z ≡ None) r rs l) (All-tail (λ d. fits_in d u ≡ true) v vs f))

rows_renamed_fit : (n m : List ℕ) (u : Shape) (rows : List Row) (cs : ColumnList) → Rises cs → LacksColumn m rows → field_in n cs ≡ Some u → AllFit rows cs → AllFit (map (field_renamed n m) rows) (put_column m u (without_column n cs))
rows_renamed_fit n m u [] cs rising l e h = refl
rows_renamed_fit n m u (r ∷ rs) cs rising l e h =
    and_from (fields_fit (field_list (field_renamed n m r)) (put_column m u (without_column n cs))) (rows_fit (row_list (map (field_renamed n m) rs)) (put_column m u (without_column n cs)))
    (renamed_fits n m u r cs rising (first_row_fits r rs cs h) (All-head (λ (z : Row). item_named m z ≡ None) r rs l) e)
    (rows_renamed_fit n m u rs cs rising (All-tail (λ (z : Row). item_named m z ≡ None) r rs l) e (other_rows_fit r rs cs h))

-- ---- in turn

pub added_fit : (columns : List (List ℕ × List Data)) (ts : List (List ℕ × Shape)) (rows : List Row) (cs ds : ColumnList) → AreOfTypes columns ts → CanAddColumns columns rows → AllFit rows cs → in_turn (λ t. with_new t.0 t.1) ts cs ≡ Ok ds → AllFit (with_columns columns rows) ds
added_fit [] [] rows cs ds o can h e = let same : cs ≡ ds = cc in subst (AllFit rows) same h
added_fit [] (t ∷ ts) rows cs ds o can h e = absurd o
added_fit (c ∷ more) [] rows cs ds o can h e = absurd o
added_fit (c ∷ more) (t ∷ ts) rows cs ds o can h e =
    let L : List ℕ → Type 0 = λ n. LacksColumn n rows in
    let P : List ℕ → Type 0 = λ n. AllFit (rows_with_column n rows c.1) (put_column t.0 t.1 cs) in
    let wider = subst P (sym o.0) (with_column_fits t.0 t.1 rows c.1 cs h (subst L o.0 can.0) o.1) in
    by (field_in t.0 cs) (λ k. added_fit more ts (rows_with_column c.0 rows c.1) (put_column t.0 t.1 cs) ds o.2 can.2 wider k) e
  where
    by : (f : Option Shape) → (in_turn (λ (z : List ℕ × Shape). with_new z.0 z.1) ts (put_column t.0 t.1 cs) ≡ Ok ds → AllFit (with_columns more (rows_with_column c.0 rows c.1)) ds) → and_then (if_free f (put_column t.0 t.1 cs)) (λ es. in_turn (λ (z : List ℕ × Shape). with_new z.0 z.1) ts es) ≡ Ok ds → AllFit (with_columns more (rows_with_column c.0 rows c.1)) ds
    by (Some u) k q = cc
    by None k q = k q

pub dropped_fit : (ns : List (List ℕ)) (rows : List Row) (cs : ColumnList) → Rises cs → AllFit rows cs → AllFit (without_columns ns rows) (without_all ns cs)
dropped_fit [] rows cs rising h = h
dropped_fit (n ∷ ns) rows cs rising h =
    dropped_fit ns (map (fields_without n) rows) (without_column n cs) (rises_without n cs rising)
    (mapped_fit (fields_without n) cs (without_column n cs) (λ r k. without_fits n r cs rising k) rows h)

pub all_renamed_fit : (ps : List (List ℕ × List ℕ)) (rows : List Row) (cs ds : ColumnList) → Rises cs → CanRename ps rows → AllFit rows cs → in_turn (λ p. with_renamed p.0 p.1) ps cs ≡ Ok ds → AllFit (renamed_columns ps rows) ds
all_renamed_fit [] rows cs ds rising can h e = let same : cs ≡ ds = cc in subst (AllFit rows) same h
all_renamed_fit (p ∷ ps) rows cs ds rising can h e =
    by (field_in p.0 cs) refl (field_in p.1 (cs))
    (λ u f k. all_renamed_fit ps (map (field_renamed p.0 p.1) rows) (put_column p.1 u (without_column p.0 cs)) ds
    (rises_put p.1 u (without_column p.0 cs) (rises_without p.0 cs rising)) can.1
    (rows_renamed_fit p.0 p.1 u rows cs rising can.0 f h) k)
    e
  where
    by : (f : Option Shape) → field_in p.0 cs ≡ f → (g : Option Shape) → ((u : Shape) → field_in p.0 cs ≡ Some u → in_turn (λ (z : List ℕ × List ℕ). with_renamed z.0 z.1) ps (put_column p.1 u (without_column p.0 cs)) ≡ Ok ds → AllFit (renamed_columns ps (map (field_renamed p.0 p.1) rows)) ds) → and_then (and_then (if_there f) (λ u. if_free g (put_column p.1 u (without_column p.0 cs)))) (λ es. in_turn (λ (z : List ℕ × List ℕ). with_renamed z.0 z.1) ps es) ≡ Ok ds → AllFit (renamed_columns ps (map (field_renamed p.0 p.1) rows)) ds
    by None i g k q = cc
    by (Some u) i None k q = k u i q
    by (Some u) i (Some w) k q = cc
