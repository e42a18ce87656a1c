-- Values that are widened fit, where the columns of the wider type rise.
use Rattle.std.proofs.Common.{◌≡◌, ℕ, List, Bool, true, false, Option, Some, None, refl, ap, sym, subst, ◌∙◌, option_map, option_and_then}
use Rattle.std.specs.Prelude.{bytes_eq, if◌then◌else◌}
use Rattle.std.specs.Ordering.{nat_cmp, is_eq, match_ordering}
use Rattle.std.specs.Cmp.Lexicographic.{slice_cmp}
use Rattle.std.specs.declared.cmp.Ordering.{Ordering}
use Rattle.std.specs.declared.cmp.Ordering.TheVariants.{Less, Equal, Greater}
use Rattle.std.proofs.lemmas.Map.Text.{is_eq-slice_cmp}
use Rattle.std.proofs.lemmas.Bool.{and_from}
use Rattle.fx_types.specs.Types.{Shape, numbers, texts, booleans, dates, records, tables, ColumnList, no_columns, column}
use Rattle.fx_types.specs.Values.{Data, blank, number, text, boolean, date, rec, tab, fault, FieldList, no_fields, field, RowList, no_rows, row}
use Rattle.fx_types.proofs.Utf8Order.{and_second, and_first}
use Rattle.fx_core.specs.ColumnLists.{field_in}
use Rattle.fx_value.proofs.Widenings.{own_name, same_name, below_apart}
use Rattle.fx_value.specs.Coercion.{field_or_blank, widened, widened_fields, rows_mapped}
use Rattle.fx_value.specs.Fits.{fits_in, fields_fit, rows_fit}
use Rattle.fx_value.specs.Join.{join_of, union, with_column}
use Rattle.fx_semantics.specs.Sound.{IsBelowColumns, IsLawfulType, AreLawfulColumns}
use Rattle.fx_semantics.proofs.Fields.{all_fit, field_fits, name_fits, rest_fits}

-- P holds of the fields of each row
abbrev EachRow : (FieldList → Type 0) → RowList → Type 0
EachRow P no_rows = Unit {0}
EachRow P (row fs rs) = P fs × EachRow P rs

-- a value has, at each depth, values that come to the types of a wider type
abbrev mutual
  pub Comes : Data → Shape → Type 0
  Comes (rec fs) (records cs) = FieldsCome fs cs
  Comes (tab rs) (tables cs) = EachRow (λ fs. FieldsCome fs cs) rs
  Comes d t = fits_in d t ≡ true

  pub FieldsCome : FieldList → ColumnList → Type 0
  FieldsCome fs no_columns = Unit {0}
  FieldsCome fs (column n t cs) = Comes (field_or_blank n fs) t × FieldsCome fs cs

rows_widened_fit : (cs : ColumnList) → ((fs : FieldList) → FieldsCome fs cs → fields_fit (widened_fields fs cs) cs ≡ true) →
    (rs : RowList) → EachRow (λ fs. FieldsCome fs cs) rs → rows_fit (rows_mapped (λ fs. widened_fields fs cs) rs) cs ≡ true
rows_widened_fit cs go no_rows k = refl
rows_widened_fit cs go (row fs rest) k =
    and_from (fields_fit (widened_fields fs cs) cs) (rows_fit (rows_mapped (λ es. widened_fields es cs) rest) cs) (go fs k.0) (rows_widened_fit cs go rest k.1)

mutual
  pub widened_fits : (d : Data) (t : Shape) → Comes d t → fits_in (widened d t) t ≡ true
  widened_fits (rec fs) (records cs) h = fields_widened_fit fs cs h
  widened_fits (tab rs) (tables cs) h = rows_widened_fit cs (λ fs k. fields_widened_fit fs cs k) rs h
  widened_fits d t h = h

  pub fields_widened_fit : (fs : FieldList) (cs : ColumnList) → FieldsCome fs cs → fields_fit (widened_fields fs cs) cs ≡ true
  fields_widened_fit fs no_columns h = refl
  fields_widened_fit fs (column n t cs) h = all_fit n (widened (field_or_blank n fs) t) t (widened_fields fs cs) cs (widened_fits (field_or_blank n fs) t h.0) (fields_widened_fit fs cs h.1)

under_apart : (m : List ℕ) (cs : ColumnList) → IsBelowColumns m cs → (n : List ℕ) (t : Shape) → field_in n cs ≡ Some t → bytes_eq m n ≡ false
under_apart m no_columns l n t h = cc
under_apart m (column k s cs) l n t h = by (bytes_eq k n) refl (λ q. under_apart m cs l.1 n t q) h
  where
    by : (b : Bool) → bytes_eq k n ≡ b → (field_in n cs ≡ Some t → bytes_eq m n ≡ false) → (if b then Some s else field_in n cs) ≡ Some t → bytes_eq m n ≡ false
    by true e r q = let P : List ℕ → Type 0 = λ z. bytes_eq m z ≡ false in subst P (same_name k n e) (below_apart m k l.0)
    by false e r q = r q

under_none : (m : List ℕ) (cs : ColumnList) → IsBelowColumns m cs → field_in m cs ≡ None
under_none m cs l = by (field_in m cs) refl
  where
    by : (o : Option Shape) → field_in m cs ≡ o → o ≡ None
    by None e = refl
    by (Some t) e = let q : true ≡ false = sym (own_name m) ∙ under_apart m cs l m t e in cc

-- each column has a value that comes to its type
abbrev HasEach : FieldList → ColumnList → Type 0
HasEach fs cs = (n : List ℕ) (t : Shape) → field_in n cs ≡ Some t → Comes (field_or_blank n fs) t

first_in : (n : List ℕ) (t : Shape) (cs : ColumnList) → field_in n (column n t cs) ≡ Some t
first_in n t cs = rw (own_name n) refl

later_in : (m : List ℕ) (u : Shape) (cs : ColumnList) → IsBelowColumns m cs → (n : List ℕ) (t : Shape) → field_in n cs ≡ Some t → field_in n (column m u cs) ≡ Some t
later_in m u cs l n t e = rw (under_apart m cs l n t e) e

collected : (fs : FieldList) (cs : ColumnList) → AreLawfulColumns cs → HasEach fs cs → FieldsCome fs cs
collected fs no_columns l h = tt
collected fs (column n t cs) l h = (h n t (first_in n t cs), collected fs cs l.2 (λ m u e. h m u (later_in n t cs l.0 m u e)))

-- what fits a lawful type comes to it
abbrev AllCome : ColumnList → Type 0
AllCome cs = (n : List ℕ) (t : Shape) (d : Data) → field_in n cs ≡ Some t → fits_in d t ≡ true → Comes d t

fields_same : (fs : FieldList) (cs : ColumnList) → AreLawfulColumns cs → AllCome cs → fields_fit fs cs ≡ true → FieldsCome fs cs
fields_same fs cs l k f = collected fs cs l (λ n t e. k n t (field_or_blank n fs) e (field_fits n fs cs t f e))

rows_same : (cs : ColumnList) → AreLawfulColumns cs → AllCome cs → (rs : RowList) → rows_fit rs cs ≡ true → EachRow (λ fs. FieldsCome fs cs) rs
rows_same cs l k no_rows f = tt
rows_same cs l k (row fs rest) f =
    (fields_same fs cs l k (and_first (fields_fit fs cs) (rows_fit rest cs) f), rows_same cs l k rest (and_second (fields_fit fs cs) (rows_fit rest cs) f))

first_or_later : (m n : List ℕ) (u t : Shape) (cs : ColumnList) (d : Data) → fits_in d t ≡ true → (b : Bool) → (field_in n cs ≡ Some t → Comes d t) → (fits_in d u ≡ true → Comes d u) →
    (if b then Some u else field_in n cs) ≡ Some t → Comes d t
first_or_later m n u t cs d f true r k q =
    let same : u ≡ t = cc in
    let P : Shape → Type 0 = λ z. Comes d z in
    let Q : Shape → Type 0 = λ z. fits_in d z ≡ true in
    subst P same (k (subst Q (sym same) f))
first_or_later m n u t cs d f false r k q = r q

mutual
  pub same_comes : (d : Data) (t : Shape) → IsLawfulType t → fits_in d t ≡ true → Comes d t
  same_comes (rec fs) (records cs) l f = fields_same fs cs l (λ n t d e k. columns_come cs l n t d e k) f
  same_comes (tab rs) (tables cs) l f = rows_same cs l (λ n t d e k. columns_come cs l n t d e k) rs f
  same_comes d t l f = f

  columns_come : (cs : ColumnList) → AreLawfulColumns cs → (n : List ℕ) (t : Shape) (d : Data) → field_in n cs ≡ Some t → fits_in d t ≡ true → Comes d t
  columns_come no_columns l n t d e f = cc
  columns_come (column m u cs) l n t d e f =
      first_or_later m n u t cs d f (bytes_eq m n) (λ q. columns_come cs l.2 n t d q f) (λ k. same_comes d u l.1 k) e

-- ---- what a column of a union comes of
-- the names rise
abbrev Rises : ColumnList → Type 0
Rises no_columns = Unit {0}
Rises (column n t cs) = IsBelowColumns n cs × Rises cs

lawful_rises : (cs : ColumnList) → AreLawfulColumns cs → Rises cs
lawful_rises no_columns l = tt
lawful_rises (column n t cs) l = (l.0, lawful_rises cs l.2)

mapped : {A : Type 0} (g : A → ColumnList) (o : Option A) (es : ColumnList) → option_map g o ≡ Some es → (a : A) × (o ≡ Some a) × (g a ≡ es)
mapped g (Some a) es e = (a, refl, cc)
mapped g None es e = absurd cc

chained : (g : ColumnList → Option ColumnList) (o : Option ColumnList) (es : ColumnList) → option_and_then g o ≡ Some es → (fs : ColumnList) × (o ≡ Some fs) × (g fs ≡ Some es)
chained g (Some fs) es e = (fs, refl, e)
chained g None es e = absurd cc

-- the type of a column that is joined, if there is one, comes of what it was
abbrev Joined : (Shape → Option Shape) → Option Shape → Option Shape → Type 0
Joined f (Some t) o = f t ≡ o
Joined f None o = Unit {0}

-- what one more column makes of columns: the others stay, its own is joined
pub record Adds (m : List ℕ) (f : Shape → Option Shape) (cs es : ColumnList) : Type 0 where
  pub others : (n : List ℕ) → bytes_eq m n ≡ false → field_in n es ≡ field_in n cs
  pub own : Joined f (field_in m cs) (field_in m es)
  pub rise : Rises cs
  pub under : (n : List ℕ) → IsBelowColumns n es → IsBelowColumns n cs

turned : (x y : List ℕ) → bytes_eq y x ≡ false → bytes_eq x y ≡ false
turned x y d = by (bytes_eq x y) refl
  where
    by : (c : Bool) → bytes_eq x y ≡ c → c ≡ false
    by false j = refl
    by true j =
        let S : List ℕ → Type 0 = λ z. bytes_eq z x ≡ true in
        let z : true ≡ false = sym (subst S (same_name x y j) (own_name x)) ∙ d in cc

put_before : (m k : List ℕ) (u s : Shape) (f : Shape → Option Shape) (cs : ColumnList) → Rises (column m u (column k s cs)) → Adds m f (column k s cs) (column m u (column k s cs))
put_before m k u s f cs g =
    let J : Option Shape → Type 0 = λ o. Joined f o (field_in m (column m u (column k s cs))) in
    record { others = λ n a. rw a refl; own = subst J (sym (under_none m (column k s cs) g.0)) tt; rise = g.1; under = λ n l. l.1 }

put_on : (m k : List ℕ) (s v : Shape) (f : Shape → Option Shape) (cs : ColumnList) → m ≡ k → f s ≡ Some v → Rises (column k v cs) → Adds m f (column k s cs) (column k v cs)
put_on m k s v f cs q e g =
    let S : List ℕ → Type 0 = λ z. bytes_eq z m ≡ true in
    let back : bytes_eq k m ≡ true = subst S q (own_name m) in
    let apart : (n : List ℕ) → bytes_eq m n ≡ false → bytes_eq k n ≡ false = λ n d. (let T : List ℕ → Type 0 = λ z. bytes_eq z n ≡ false in subst T q d) in
    record { others = λ n d. rw (apart n d) refl; own = rw back e; rise = g; under = λ n l. l }

put_behind : (m k : List ℕ) (s : Shape) (f : Shape → Option Shape) (cs es : ColumnList) → bytes_eq k m ≡ false → IsBelowColumns k es → Adds m f cs es → Adds m f (column k s cs) (column k s es)
put_behind m k s f cs es back g rest =
    record {
      others = λ n d. ap (λ (o : Option Shape). if bytes_eq k n then Some s else o) (rest.others n d);
      own = rw back rest.own;
      rise = (rest.under k g, rest.rise);
      under = λ n l. (l.0, rest.under n l.1);
    }

with_widens : (m : List ℕ) (u : Shape) (f : Shape → Option Shape) (cs es : ColumnList) → Rises es → with_column m u f cs ≡ Some es → Adds m f cs es
with_widens m u f no_columns es r e =
    let q : column m u no_columns ≡ es = cc in
    let P : ColumnList → Type 0 = λ z. Adds m f no_columns z in
    let one : Adds m f no_columns (column m u no_columns) = record { others = λ n a. rw a refl; own = tt; rise = tt; under = λ n l. tt } in
    subst P q one
with_widens m u f (column k s cs) es r e = by (slice_cmp nat_cmp m k) refl (λ fs g q. with_widens m u f cs fs g q) e
  where
    by : (o : Ordering) → slice_cmp nat_cmp m k ≡ o → ((fs : ColumnList) → Rises fs → with_column m u f cs ≡ Some fs → Adds m f cs fs) →
        match_ordering o (Some (column m u (column k s cs))) (option_map (λ z. column k z cs) (f s)) (option_map (column k s) (with_column m u f cs)) ≡ Some es → Adds m f (column k s cs) es
    by Less b w q =
        let P : ColumnList → Type 0 = λ z. Adds m f (column k s cs) z in
        let R : ColumnList → Type 0 = λ z. Rises z in
        let i : column m u (column k s cs) ≡ es = cc in
        subst P i (put_before m k u s f cs (subst R (sym i) r))
    by Equal b w q =
        let P : ColumnList → Type 0 = λ z. Adds m f (column k s cs) z in
        let R : ColumnList → Type 0 = λ z. Rises z in
        let a = mapped (λ z. column k z cs) (f s) es q in
        let same : m ≡ k = same_name m k (sym (is_eq-slice_cmp m k) ∙ ap is_eq b) in
        subst P a.2 (put_on m k s a.0 f cs same a.1 (subst R (sym a.2) r))
    by Greater b w q =
        let P : ColumnList → Type 0 = λ z. Adds m f (column k s cs) z in
        let R : ColumnList → Type 0 = λ z. Rises z in
        let a = mapped (column k s) (with_column m u f cs) es q in
        let g : Rises (column k s a.0) = subst R (sym a.2) r in
        let differ : bytes_eq m k ≡ false = sym (is_eq-slice_cmp m k) ∙ ap is_eq b in
        subst P a.2 (put_behind m k s f cs a.0 (turned k m differ) g.0 (w a.0 g.1 a.1))

-- the columns that the second columns don't have stay
union_others : (bs cs es : ColumnList) → Rises es → union bs cs ≡ Some es → (n : List ℕ) → field_in n cs ≡ None → (field_in n es ≡ field_in n bs) × Rises bs
union_others bs no_columns es r e n h =
    let q : bs ≡ es = cc in
    let P : ColumnList → Type 0 = λ z. (field_in n es ≡ field_in n z) × Rises z in
    subst P (sym q) (refl, r)
union_others bs (column m u cs) es r e n h =
    let a = chained (with_column m u (λ t. join_of t u)) (union bs cs) es e in
    let w = with_widens m u (λ t. join_of t u) a.0 es r a.2 in
    by (bytes_eq m n) refl a.0 (λ q. union_others bs cs a.0 w.rise a.1 n q) w h
  where
    by : (b : Bool) → bytes_eq m n ≡ b → (fs : ColumnList) → (field_in n cs ≡ None → (field_in n fs ≡ field_in n bs) × Rises bs) → Adds m (λ t. join_of t u) fs es →
        (if b then Some u else field_in n cs) ≡ None → (field_in n es ≡ field_in n bs) × Rises bs
    by true j fs k w q = cc
    by false j fs k w q = let z = k q in (w.others n j ∙ z.0, z.1)

-- and a column of both is joined
union_joins : (bs cs es : ColumnList) → Rises cs → Rises es → union bs cs ≡ Some es → (n : List ℕ) (s : Shape) → field_in n cs ≡ Some s → Joined (λ t. join_of t s) (field_in n bs) (field_in n es)
union_joins bs no_columns es c r e n s h = cc
union_joins bs (column m u cs) es c r e n s h =
    let a = chained (with_column m u (λ t. join_of t u)) (union bs cs) es e in
    let w = with_widens m u (λ t. join_of t u) a.0 es r a.2 in
    by a.0 w (union_others bs cs a.0 w.rise a.1) (union_joins bs cs a.0 c.1 w.rise a.1 n s) (bytes_eq m n) refl h
  where
    by : (fs : ColumnList) → Adds m (λ t. join_of t u) fs es → ((k : List ℕ) → field_in k cs ≡ None → (field_in k fs ≡ field_in k bs) × Rises bs) →
        (field_in n cs ≡ Some s → Joined (λ t. join_of t s) (field_in n bs) (field_in n fs)) →
        (b : Bool) → bytes_eq m n ≡ b → (if b then Some u else field_in n cs) ≡ Some s → Joined (λ t. join_of t s) (field_in n bs) (field_in n es)
    by fs w o k true j q =
        let same : u ≡ s = cc in
        let x = o m (under_none m cs c.0) in
        let P : Option Shape → Type 0 = λ z. Joined (λ t. join_of t u) z (field_in m es) in
        let Q : List ℕ → Type 0 = λ z. Joined (λ t. join_of t u) (field_in z bs) (field_in z es) in
        let S : Shape → Type 0 = λ z. Joined (λ t. join_of t z) (field_in n bs) (field_in n es) in
        subst S same (subst Q (same_name m n j) (subst P x.0 w.own))
    by fs w o k false j q =
        let P : Option Shape → Type 0 = λ z. Joined (λ t. join_of t s) (field_in n bs) z in
        subst P (sym (w.others n j)) (k q)

-- a missing value is blank
missing : (n : List ℕ) (fs : FieldList) (bs : ColumnList) → fields_fit fs bs ≡ true → field_in n bs ≡ None → field_or_blank n fs ≡ blank
missing n no_fields no_columns f h = refl
missing n no_fields (column k s bs) f h = cc
missing n (field m d fs) no_columns f h = cc
missing n (field m d fs) (column k s bs) f h =
    let P : List ℕ → Type 0 = λ z. (if bytes_eq z n then Some s else field_in n bs) ≡ None → (if bytes_eq m n then d else field_or_blank n fs) ≡ blank in
    subst P (name_fits m k d s fs bs f) (by (λ q. missing n fs bs (rest_fits m k d s fs bs f) q) (bytes_eq m n)) h
  where
    by : (field_in n bs ≡ None → field_or_blank n fs ≡ blank) → (b : Bool) → (if b then Some s else field_in n bs) ≡ None → (if b then d else field_or_blank n fs) ≡ blank
    by more true q = cc
    by more false q = more q

blank_comes : (t : Shape) → Comes blank t
blank_comes t = refl

-- what fits a type comes to the join with a lawful one, where that is the join
abbrev AllJoin : ColumnList → Type 0
AllJoin cs = (n : List ℕ) (t u : Shape) (d : Data) → field_in n cs ≡ Some t → fits_in d u ≡ true → join_of u t ≡ Some t → Comes d t

records_of : (o : Option ColumnList) (cs : ColumnList) → option_map records o ≡ Some (records cs) → o ≡ Some cs
records_of (Some bs) cs e = let q : bs ≡ cs = cc in ap Some q
records_of None cs e = absurd cc

tables_of : (o : Option ColumnList) (cs : ColumnList) → option_map tables o ≡ Some (tables cs) → o ≡ Some cs
tables_of (Some bs) cs e = let q : bs ≡ cs = cc in ap Some q
tables_of None cs e = absurd cc

fields_join : (fs : FieldList) (bs cs : ColumnList) → AreLawfulColumns cs → AllJoin cs → fields_fit fs bs ≡ true → union bs cs ≡ Some cs → HasEach fs cs
fields_join fs bs cs l k f e n s h = by (field_in n bs) refl (union_joins bs cs cs (lawful_rises cs l) (lawful_rises cs l) e n s h)
  where
    by : (o : Option Shape) → field_in n bs ≡ o → Joined (λ t. join_of t s) o (field_in n cs) → Comes (field_or_blank n fs) s
    by None j q = let P : Data → Type 0 = λ z. Comes z s in subst P (sym (missing n fs bs f j)) (blank_comes s)
    by (Some u) j q = k n s u (field_or_blank n fs) h (field_fits n fs bs u f j) (q ∙ h)

rows_join : (bs cs : ColumnList) → AreLawfulColumns cs → AllJoin cs → union bs cs ≡ Some cs → (rs : RowList) → rows_fit rs bs ≡ true → EachRow (λ fs. FieldsCome fs cs) rs
rows_join bs cs l k e no_rows f = tt
rows_join bs cs l k e (row fs rest) f = (
  collected fs cs l (fields_join fs bs cs l k (and_first (fields_fit fs bs) (rows_fit rest bs) f) e),
  rows_join bs cs l k e rest (and_second (fields_fit fs bs) (rows_fit rest bs) f),
)

joined_or_later : (n : List ℕ) (s t u : Shape) (cs : ColumnList) (d : Data) → join_of u t ≡ Some t → (b : Bool) → (field_in n cs ≡ Some t → Comes d t) → (join_of u s ≡ Some s → Comes d s) →
    (if b then Some s else field_in n cs) ≡ Some t → Comes d t
joined_or_later n s t u cs d e true r k q =
    let same : s ≡ t = cc in
    let P : Shape → Type 0 = λ z. Comes d z in
    let Q : Shape → Type 0 = λ z. join_of u z ≡ Some z in
    subst P same (k (subst Q (sym same) e))
joined_or_later n s t u cs d e false r k q = r q

mutual
  pub join_comes : (d : Data) (u t : Shape) → IsLawfulType t → fits_in d u ≡ true → join_of u t ≡ Some t → Comes d t
  join_comes (rec fs) (records bs) (records cs) l f e =
      collected fs cs l (fields_join fs bs cs l (λ n t u d h k j. columns_join cs l n t u d h k j) f (records_of (union bs cs) cs e))
  join_comes (tab rs) (tables bs) (tables cs) l f e =
      rows_join bs cs l (λ n t u d h k j. columns_join cs l n t u d h k j) (tables_of (union bs cs) cs e) rs f
  join_comes blank u t l f e = refl
  join_comes (fault k m) u t l f e = refl
  join_comes (number z) numbers numbers l f e = refl
  join_comes (text x) texts texts l f e = refl
  join_comes (boolean b) booleans booleans l f e = refl
  join_comes (date z) dates dates l f e = refl
  join_comes d u t l f e = cc

  columns_join : (cs : ColumnList) → AreLawfulColumns cs → (n : List ℕ) (t u : Shape) (d : Data) → field_in n cs ≡ Some t → fits_in d u ≡ true → join_of u t ≡ Some t → Comes d t
  columns_join no_columns l n t u d h f e = cc
  columns_join (column m s cs) l n t u d h f e =
      joined_or_later n s t u cs d e (bytes_eq m n) (λ q. columns_join cs l.2 n t u d q f e) (λ w. join_comes d u s l.1 f w) h
