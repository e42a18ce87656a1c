-- What a type widens to, and what fits it then.
use Rattle.std.proofs.Common.{◌≡◌, ℕ, zero, suc, ◌<◌, List, [], ◌∷◌, ◌++◌, length, get_or, Option, Some, None, Bool, true, false, bytes_eq, refl, sym, ap, subst, ◌∙◌, arith, option_map, if◌then◌else◌}
use Rattle.std.specs.Prelude.{◌&&◌}
use Rattle.std.specs.Ordering.{nat_cmp, is_eq, match_ordering}
use Rattle.std.specs.Cmp.Lexicographic.{slice_cmp}
use Rattle.std.specs.declared.cmp.Ordering.{Ordering}
use Rattle.std.specs.declared.cmp.Ordering.TheVariants.{Less, Equal, Greater}
use Rattle.std.proofs.lemmas.Map.Text.{is_eq-slice_cmp}
use Rattle.std.proofs.lemmas.Slice.Eq.{bytes_eq-Decides}
use Rattle.fx_types.specs.Rising.{IsBelow, IsNameBelowAll, AreNamesRising}
use Rattle.fx_types.specs.Types.{Shape, blanks, numbers, texts, booleans, dates, records, tables, ColumnList, no_columns, column, column_list}
use Rattle.fx_types.specs.TypeView.{shape, columns_view}
use Rattle.fx_types.specs.Values.{Data, blank, number, text, boolean, date, fault, rec, tab, FieldList, no_fields, field, field_list, RowList, row_list}
use Rattle.fx_types.specs.ValueView.{view}
use Rattle.fx_types.specs.declared.types.Ty.{Ty}
use Rattle.fx_types.specs.declared.types.Ty.TheVariants.{Rec as RecTy, Tab as TabTy}
use Rattle.fx_types.specs.declared.values.Value.{Value}
use Rattle.fx_types.specs.declared.values.Value.TheVariants.{Blank, Number, Text, Boolean, Date, Rec, Tab, Fault}
use Rattle.fx_types.proofs.Utf8Order.{and_second, and_first}
use Rattle.fx_value.specs.Coercion.{Widens, same, joined, CanWiden, field_or_blank}
use Rattle.fx_value.specs.Fits.{fits_in, fields_fit, rows_fit}
use Rattle.fx_value.specs.Join.{join_of, union, with_column}
use Rattle.fx_value.proofs.Unions.{Under, Rises, under_list, rises_union, under_further, by_then, blanks_join}

pub same_name : (n m : List ℕ) → bytes_eq n m ≡ true → n ≡ m
same_name n m h = (bytes_eq-Decides n m).0 h

pub own_name : (n : List ℕ) → bytes_eq n n ≡ true
own_name n = (bytes_eq-Decides n n).1 refl

pub below_apart : (n m : List ℕ) → IsBelow n m → bytes_eq n m ≡ false
below_apart n m h = sym (is_eq-slice_cmp n m) ∙ ap is_eq h

-- the type of the column of this name
abbrev pub type_in : List ℕ → ColumnList → Option Shape
type_in n no_columns = None
type_in n (column m t cs) = if bytes_eq m n then Some t else type_in n cs

pub under_apart : (m : List ℕ) (cs : ColumnList) → Under m cs → (n : List ℕ) (t : Shape) → type_in n cs ≡ Some t → bytes_eq m n ≡ false
under_apart m no_columns l n t h = cc
under_apart m (column k s cs) l n t h = by (bytes_eq k n) refl (λ q. under_apart m cs l.1 n t q) h
  where
    by : (b : Bool) → bytes_eq k n ≡ b → (type_in n cs ≡ Some t → bytes_eq m n ≡ false) → (if b then Some s else type_in n cs) ≡ Some t → bytes_eq m n ≡ false
    by true e r q = let P : List ℕ → Type 0 = λ z. bytes_eq m z ≡ false in subst P (same_name k n e) (below_apart m k l.0)
    by false e r q = r q

pub widens_further : (s t v : Shape) → Widens s t → Widens t v → Widens s v
widens_further s t v w same = w
widens_further s t v w (joined u x y z e) = joined u x y (widens_further s t u w z) e

-- a column's type, where it was t and may be joined with others
abbrev Kept : List ℕ → Shape → ColumnList → Type 0
Kept n t cs = (v : Shape) × (type_in n cs ≡ Some v) × Widens t v

with_keeps : (m : List ℕ) (u : Shape) (cs es : ColumnList) → Rises cs → with_column m u (λ x. join_of x u) cs ≡ Some es → (n : List ℕ) (t : Shape) → type_in n cs ≡ Some t → Kept n t es
with_keeps m u no_columns es r e n t h = cc
with_keeps m u (column k s cs) es r e n t h = by (slice_cmp nat_cmp m k) refl (λ fs q i. with_keeps m u cs fs r.1 q n t i) e
  where
    ahead : slice_cmp nat_cmp m k ≡ Less → Under m (column k s cs)
    ahead b = (b, under_further m k cs b r.0)

    first : (b : Bool) (s' : Shape) → (s ≡ t → Widens t s') → (if b then Some s else type_in n cs) ≡ Some t → (v : Shape) × ((if b then Some s' else type_in n cs) ≡ Some v) × Widens t v
    first true s' w q = let i : s ≡ t = cc in (s', refl, w i)
    first false s' w q = (t, q, same)

    rest : (b : Bool) (fs : ColumnList) → (type_in n cs ≡ Some t → Kept n t fs) → (if b then Some s else type_in n cs) ≡ Some t → (v : Shape) × ((if b then Some s else type_in n fs) ≡ Some v) × Widens t v
    rest true fs w q = (t, q, same)
    rest false fs w q = w q

    met : (o : Option Shape) → join_of s u ≡ o → option_map (λ s'. column k s' cs) o ≡ Some es → Kept n t es
    met None j q = cc
    met (Some s') j q =
        let i : column k s' cs ≡ es = cc in
        subst (Kept n t) i (first (bytes_eq k n) s' (λ a. let P : Shape → Type 0 = λ z. Widens z s' in subst P a (joined s u s' same j)) h)

    later : (o : Option ColumnList) → with_column m u (λ x. join_of x u) cs ≡ o → ((fs : ColumnList) → with_column m u (λ x. join_of x u) cs ≡ Some fs → type_in n cs ≡ Some t → Kept n t fs) → option_map (column k s) o ≡ Some es → Kept n t es
    later None j w q = cc
    later (Some fs) j w q =
        let i : column k s fs ≡ es = cc in
        subst (Kept n t) i (rest (bytes_eq k n) fs (w fs j) h)

    by : (o : Ordering) → slice_cmp nat_cmp m k ≡ o → ((fs : ColumnList) → with_column m u (λ x. join_of x u) cs ≡ Some fs → type_in n cs ≡ Some t → Kept n t fs) → match_ordering o (Some (column m u (column k s cs))) (option_map (λ s'. column k s' cs) (join_of s u)) (option_map (column k s) (with_column m u (λ x. join_of x u) cs)) ≡ Some es → Kept n t es
    by Less b w q =
        let i : column m u (column k s cs) ≡ es = cc in
        let P : Bool → Type 0 = λ z. (v : Shape) × ((if z then Some u else type_in n (column k s cs)) ≡ Some v) × Widens t v in
        subst (Kept n t) i (subst P (sym (under_apart m (column k s cs) (ahead b) n t h)) (t, h, same))
    by Equal b w q = met (join_of s u) refl q
    by Greater b w q = later (with_column m u (λ x. join_of x u) cs) refl w q

union_keeps : (cs us es : ColumnList) → Rises cs → union cs us ≡ Some es → (n : List ℕ) (t : Shape) → type_in n cs ≡ Some t → Kept n t es
union_keeps cs no_columns es r e n t h = let q : cs ≡ es = cc in subst (Kept n t) q (t, h, same)
union_keeps cs (column m u us) es r e n t h =
    by_then (Kept n t) (with_column m u (λ x. join_of x u)) (union cs us) es
    (λ fs q k.
    let i = union_keeps cs us fs r q n t h in
    let w = with_keeps m u fs es (rises_union cs us fs r q) k n i.0 i.1 in
    (w.0, w.1, widens_further t i.0 w.0 i.2 w.2))
    e

-- what records of these columns widen to: records that rise, and have a wider type for each column
abbrev Wide : ColumnList → Shape → Type 0
Wide bs (records cs) = Rises cs × ((n : List ℕ) (s : Shape) → type_in n bs ≡ Some s → Kept n s cs)
Wide bs _ = ⊥

record_step : (bs : ColumnList) (t u v : Shape) → Wide bs t → join_of t u ≡ Some v → Wide bs v
record_step bs (records ts) blanks v g e = let q : records ts ≡ v = cc in subst (Wide bs) q g
record_step bs (records ts) (records us) v g e = by (union ts us) refl e
  where
    by : (o : Option ColumnList) → union ts us ≡ o → option_map records o ≡ Some v → Wide bs v
    by None j q = cc
    by (Some cs) j q =
        let i : records cs ≡ v = cc in
        subst (Wide bs) i
        (rises_union ts us cs g.0 j, λ n s h. let k = g.1 n s h in let m = union_keeps ts us cs g.0 j n k.0 k.1 in (m.0, m.1, widens_further s k.0 m.0 k.2 m.2))
record_step bs (records ts) _ v g e = cc
record_step bs _ u v g e = absurd g

record_widens : (bs : ColumnList) (v : Shape) → Rises bs → Widens (records bs) v → Wide bs v
record_widens bs v r same = (r, λ n s h. (s, h, same))
record_widens bs v r (joined t u w x e) = record_step bs t u w (record_widens bs t r x) e

-- tables widen as their rows do
abbrev AsRecords : ColumnList → Shape → Type 0
AsRecords bs (tables cs) = Widens (records bs) (records cs)
AsRecords bs _ = ⊥

table_step : (bs : ColumnList) (t u v : Shape) → AsRecords bs t → join_of t u ≡ Some v → AsRecords bs v
table_step bs (tables ts) blanks v g e = let q : tables ts ≡ v = cc in subst (AsRecords bs) q g
table_step bs (tables ts) (tables us) v g e = by (union ts us) refl e
  where
    by : (o : Option ColumnList) → union ts us ≡ o → option_map tables o ≡ Some v → AsRecords bs v
    by None j q = cc
    by (Some cs) j q =
        let i : tables cs ≡ v = cc in
        subst (AsRecords bs) i (joined (records ts) (records us) (records cs) g (ap (option_map records) j))
table_step bs (tables ts) _ v g e = cc
table_step bs _ u v g e = absurd g

table_widens : (bs : ColumnList) (v : Shape) → Widens (tables bs) v → AsRecords bs v
table_widens bs v same = same
table_widens bs v (joined t u w x e) = table_step bs t u w (table_widens bs t x) e

-- what fits columns, has a fitting value for each, and blank for no column
abbrev FitsIf : Data → Option Shape → Type 0
FitsIf d None = d ≡ blank
FitsIf d (Some s) = fits_in d s ≡ true

value_fits : (n : List ℕ) (fs : FieldList) (bs : ColumnList) → fields_fit fs bs ≡ true → FitsIf (field_or_blank n fs) (type_in n bs)
value_fits n no_fields no_columns h = refl
value_fits n no_fields (column k s bs) h = cc
value_fits n (field m d fs) no_columns h = cc
value_fits n (field m d fs) (column k s bs) h =
    let more = and_second (bytes_eq m k) (fits_in d s && fields_fit fs bs) h in
    let P : List ℕ → Type 0 = λ z. FitsIf (if bytes_eq m n then d else field_or_blank n fs) (if bytes_eq z n then Some s else type_in n bs) in
    subst P (same_name m k (and_first (bytes_eq m k) (fits_in d s && fields_fit fs bs) h))
    (by (bytes_eq m n) (and_first (fits_in d s) (fields_fit fs bs) more) (value_fits n fs bs (and_second (fits_in d s) (fields_fit fs bs) more)))
  where
    by : (b : Bool) → fits_in d s ≡ true → FitsIf (field_or_blank n fs) (type_in n bs) → FitsIf (if b then d else field_or_blank n fs) (if b then Some s else type_in n bs)
    by true f g = f
    by false f g = g

-- the names of what fits are those of the columns
fit_under : (n : List ℕ) (xs : List (List ℕ × Data)) (bs : ColumnList) → fields_fit (field_list xs) bs ≡ true → IsNameBelowAll n xs → Under n bs
fit_under n [] no_columns h l = tt
fit_under n [] (column k s bs) h l = cc
fit_under n (x ∷ xs) no_columns h l = cc
fit_under n (x ∷ xs) (column k s bs) h l =
    let more = and_second (bytes_eq x.0 k) (fits_in x.1 s && fields_fit (field_list xs) bs) h in
    (subst (IsBelow n) (same_name x.0 k (and_first (bytes_eq x.0 k) (fits_in x.1 s && fields_fit (field_list xs) bs) h)) l.0, fit_under n xs bs (and_second (fits_in x.1 s) (fields_fit (field_list xs) bs) more) l.1)

fit_rises : (xs : List (List ℕ × Data)) (bs : ColumnList) → fields_fit (field_list xs) bs ≡ true → AreNamesRising xs → Rises bs
fit_rises [] no_columns h r = tt
fit_rises [] (column k s bs) h r = cc
fit_rises (x ∷ xs) no_columns h r = cc
fit_rises (x ∷ xs) (column k s bs) h r =
    let more = and_second (bytes_eq x.0 k) (fits_in x.1 s && fields_fit (field_list xs) bs) h in
    let rest = and_second (fits_in x.1 s) (fields_fit (field_list xs) bs) more in
    let P : List ℕ → Type 0 = λ z. Under z bs in
    (subst P (same_name x.0 k (and_first (bytes_eq x.0 k) (fits_in x.1 s && fields_fit (field_list xs) bs) h)) (fit_under x.0 xs bs rest r.0), fit_rises xs bs rest r.1)

below_fit : (n : List ℕ) (xs : List (List ℕ × Data)) (cs : List (List ℕ × Shape)) → fields_fit (field_list xs) (column_list cs) ≡ true → IsNameBelowAll n cs → IsNameBelowAll n xs
below_fit n [] [] h l = tt
below_fit n [] (c ∷ cs) h l = cc
below_fit n (x ∷ xs) [] h l = cc
below_fit n (x ∷ xs) (c ∷ cs) h l =
    let more = and_second (bytes_eq x.0 c.0) (fits_in x.1 c.1 && fields_fit (field_list xs) (column_list cs)) h in
    (subst (IsBelow n) (sym (same_name x.0 c.0 (and_first (bytes_eq x.0 c.0) (fits_in x.1 c.1 && fields_fit (field_list xs) (column_list cs)) h))) l.0, below_fit n xs cs (and_second (fits_in x.1 c.1) (fields_fit (field_list xs) (column_list cs)) more) l.1)

pub rises_by_fit : (xs : List (List ℕ × Data)) (cs : List (List ℕ × Shape)) → fields_fit (field_list xs) (column_list cs) ≡ true → AreNamesRising cs → AreNamesRising xs
rises_by_fit [] [] h r = tt
rises_by_fit [] (c ∷ cs) h r = cc
rises_by_fit (x ∷ xs) [] h r = cc
rises_by_fit (x ∷ xs) (c ∷ cs) h r =
    let more = and_second (bytes_eq x.0 c.0) (fits_in x.1 c.1 && fields_fit (field_list xs) (column_list cs)) h in
    let rest = and_second (fits_in x.1 c.1) (fields_fit (field_list xs) (column_list cs)) more in
    let P : List ℕ → Type 0 = λ z. IsNameBelowAll z xs in
    (subst P (sym (same_name x.0 c.0 (and_first (bytes_eq x.0 c.0) (fits_in x.1 c.1 && fields_fit (field_list xs) (column_list cs)) h))) (below_fit c.0 xs cs rest r.0), rises_by_fit xs cs rest r.1)

-- a column among rising ones is found by its name
column_at : (cs : List (List ℕ × Ty)) (i : ℕ) (c : List ℕ × Ty) → i < length cs → c ≡ get_or cs i c → AreNamesRising (columns_view cs) → type_in c.0 (column_list (columns_view cs)) ≡ Some (shape c.1)
column_at [] i c h e r = absurd (omega arith)
column_at (d ∷ cs) zero c h e r = let P : List ℕ × Ty → Type 0 = λ z. type_in z.0 (column_list (columns_view (d ∷ cs))) ≡ Some (shape z.1) in subst P (sym e) (rw (own_name d.0) refl)
column_at (d ∷ cs) (suc i) c h e r =
    let later = column_at cs i c (omega arith) e r.1 in
    rw (under_apart d.0 (column_list (columns_view cs)) (under_list d.0 (columns_view cs) r.0) c.0 (shape c.1) later) later

-- the value under a name widens to the type of the column of that name
record_can : (xs : List (List ℕ × Data)) (s : Shape) (cs : ColumnList) → fits_in (rec (field_list xs)) s ≡ true → Widens s (records cs) → AreNamesRising xs → (n : List ℕ) (u : Shape) → type_in n cs ≡ Some u → CanWiden (field_or_blank n (field_list xs)) u
record_can xs (records bs) cs f w r n u h = by (type_in n bs) refl (value_fits n (field_list xs) bs f)
  where
    wide : Wide bs (records cs)
    wide = record_widens bs (records cs) (fit_rises xs bs f r) w

    by : (o : Option Shape) → type_in n bs ≡ o → FitsIf (field_or_blank n (field_list xs)) o → CanWiden (field_or_blank n (field_list xs)) u
    by None j k = record { from = blanks; fitting = rw k refl; widens = joined blanks u u same (blanks_join u) }
    by (Some s) j k =
        let i = wide.1 n s j in
        let q : i.0 ≡ u = let both_ways : Some i.0 ≡ Some u = sym i.1 ∙ h in cc in
        record { from = s; fitting = k; widens = subst (Widens s) q i.2 }
record_can xs _ cs f w r n u h = cc

pub field_can_widen : (xs : List (List ℕ × Data)) (cs : List (List ℕ × Ty)) → CanWiden (rec (field_list xs)) (records (column_list (columns_view cs))) → AreNamesRising xs → AreNamesRising (columns_view cs) → (i : ℕ) (c : List ℕ × Ty) → i < length cs → c ≡ get_or cs i c → CanWiden (field_or_blank c.0 (field_list xs)) (shape c.1)
field_can_widen xs cs can r q i c h e =
    record_can xs can.from (column_list (columns_view cs)) can.fitting can.widens r c.0 (shape c.1) (column_at cs i c h e q)

-- each row of a table widens as a record
row_fits : (xs : List (List (List ℕ × Data))) (r : List (List ℕ × Data)) (ys : List (List (List ℕ × Data))) (bs : ColumnList) → rows_fit (row_list (xs ++ r ∷ ys)) bs ≡ true → fields_fit (field_list r) bs ≡ true
row_fits [] r ys bs f = and_first (fields_fit (field_list r) bs) (rows_fit (row_list ys) bs) f
row_fits (x ∷ xs) r ys bs f = row_fits xs r ys bs (and_second (fields_fit (field_list x) bs) (rows_fit (row_list (xs ++ r ∷ ys)) bs) f)

table_can : (xs : List (List (List ℕ × Data))) (r : List (List ℕ × Data)) (ys : List (List (List ℕ × Data))) (s : Shape) (cs : ColumnList) → fits_in (tab (row_list (xs ++ r ∷ ys))) s ≡ true → Widens s (tables cs) → CanWiden (rec (field_list r)) (records cs)
table_can xs r ys (tables bs) cs f w = record { from = records bs; fitting = row_fits xs r ys bs f; widens = table_widens bs (tables cs) w }
table_can xs r ys _ cs f w = cc

pub row_can_widen : (xs : List (List (List ℕ × Data))) (r : List (List ℕ × Data)) (ys : List (List (List ℕ × Data))) (cs : ColumnList) → CanWiden (tab (row_list (xs ++ r ∷ ys))) (tables cs) → CanWiden (rec (field_list r)) (records cs)
row_can_widen xs r ys cs can = table_can xs r ys can.from cs can.fitting can.widens

-- a scalar type widens to itself alone, and records and tables to such
abbrev pub IsLike : Shape → Shape → Type 0
IsLike blanks v = Unit {0}
IsLike numbers v = v ≡ numbers
IsLike texts v = v ≡ texts
IsLike booleans v = v ≡ booleans
IsLike dates v = v ≡ dates
IsLike (records bs) v = (cs : ColumnList) × (v ≡ records cs)
IsLike (tables bs) v = (cs : ColumnList) × (v ≡ tables cs)

like_itself : (s : Shape) → IsLike s s
like_itself blanks = tt
like_itself numbers = refl
like_itself texts = refl
like_itself booleans = refl
like_itself dates = refl
like_itself (records bs) = (bs, refl)
like_itself (tables bs) = (bs, refl)

like_joined : (t u v : Shape) → join_of t u ≡ Some v → IsLike t v
like_joined blanks u v e = tt
like_joined numbers blanks v e = let q : numbers ≡ v = cc in sym q
like_joined numbers numbers v e = let q : numbers ≡ v = cc in sym q
like_joined numbers _ v e = cc
like_joined texts blanks v e = let q : texts ≡ v = cc in sym q
like_joined texts texts v e = let q : texts ≡ v = cc in sym q
like_joined texts _ v e = cc
like_joined booleans blanks v e = let q : booleans ≡ v = cc in sym q
like_joined booleans booleans v e = let q : booleans ≡ v = cc in sym q
like_joined booleans _ v e = cc
like_joined dates blanks v e = let q : dates ≡ v = cc in sym q
like_joined dates dates v e = let q : dates ≡ v = cc in sym q
like_joined dates _ v e = cc
like_joined (records bs) blanks v e = let q : records bs ≡ v = cc in (bs, sym q)
like_joined (records bs) (records us) v e = by (union bs us) e
  where
    by : (o : Option ColumnList) → option_map records o ≡ Some v → IsLike (records bs) v
    by None q = cc
    by (Some cs) q = let i : records cs ≡ v = cc in (cs, sym i)
like_joined (records bs) _ v e = cc
like_joined (tables bs) blanks v e = let q : tables bs ≡ v = cc in (bs, sym q)
like_joined (tables bs) (tables us) v e = by (union bs us) e
  where
    by : (o : Option ColumnList) → option_map tables o ≡ Some v → IsLike (tables bs) v
    by None q = cc
    by (Some cs) q = let i : tables cs ≡ v = cc in (cs, sym i)
like_joined (tables bs) _ v e = cc

like_further : (s t v : Shape) → IsLike s t → IsLike t v → IsLike s v
like_further blanks t v h k = tt
like_further numbers t v h k = let P : Shape → Type 0 = λ z. IsLike z v in subst P h k
like_further texts t v h k = let P : Shape → Type 0 = λ z. IsLike z v in subst P h k
like_further booleans t v h k = let P : Shape → Type 0 = λ z. IsLike z v in subst P h k
like_further dates t v h k = let P : Shape → Type 0 = λ z. IsLike z v in subst P h k
like_further (records bs) t v h k = let P : Shape → Type 0 = λ z. IsLike z v in subst P h.1 k
like_further (tables bs) t v h k = let P : Shape → Type 0 = λ z. IsLike z v in subst P h.1 k

pub widens_alike : (s v : Shape) → Widens s v → IsLike s v
widens_alike s v same = like_itself s
widens_alike s v (joined t u w x e) = like_further s t w (widens_alike s t x) (like_joined t u w e)

-- a value that is no record and no table fits what its type widens to
abbrev pub IsFlat : Data → Type 0
IsFlat (rec fs) = ⊥
IsFlat (tab rs) = ⊥
IsFlat _ = Unit {0}

flat_by : (d : Data) (s v : Shape) → IsFlat d → fits_in d s ≡ true → IsLike s v → fits_in d v ≡ true
flat_by blank s v i f l = refl
flat_by (fault k cs) s v i f l = refl
flat_by (number z) numbers v i f l = rw l refl
flat_by (number z) _ v i f l = cc
flat_by (text cs) texts v i f l = rw l refl
flat_by (text cs) _ v i f l = cc
flat_by (boolean b) booleans v i f l = rw l refl
flat_by (boolean b) _ v i f l = cc
flat_by (date z) dates v i f l = rw l refl
flat_by (date z) _ v i f l = cc
flat_by (rec fs) s v i f l = absurd i
flat_by (tab rs) s v i f l = absurd i

pub flat_fits : (d : Data) (t : Shape) → IsFlat d → CanWiden d t → fits_in d t ≡ true
flat_fits d t i can = flat_by d can.from t i can.fitting (widens_alike can.from t can.widens)

-- a record widens to records alone, and a table to tables
rec_by : (fs : FieldList) (s v : Shape) → fits_in (rec fs) s ≡ true → IsLike s v → (cs : ColumnList) × (v ≡ records cs)
rec_by fs (records bs) v f l = l
rec_by fs _ v f l = cc

pub rec_to_records : (fs : FieldList) (t : Shape) → CanWiden (rec fs) t → (cs : ColumnList) × (t ≡ records cs)
rec_to_records fs t can = rec_by fs can.from t can.fitting (widens_alike can.from t can.widens)

tab_by : (rs : RowList) (s v : Shape) → fits_in (tab rs) s ≡ true → IsLike s v → (cs : ColumnList) × (v ≡ tables cs)
tab_by rs (tables bs) v f l = l
tab_by rs _ v f l = cc

pub tab_to_tables : (rs : RowList) (t : Shape) → CanWiden (tab rs) t → (cs : ColumnList) × (t ≡ tables cs)
tab_to_tables rs t can = tab_by rs can.from t can.fitting (widens_alike can.from t can.widens)

pub is_flat : (v : Value) → ((x : List (List ℕ × Data)) → v ≡ Rec x → ⊥) → ((x : List (List (List ℕ × Data))) → v ≡ Tab x → ⊥) → IsFlat (view v)
is_flat Blank h k = tt
is_flat (Number n) h k = tt
is_flat (Text w) h k = tt
is_flat (Boolean b) h k = tt
is_flat (Date d) h k = tt
is_flat (Rec fs) h k = h fs refl
is_flat (Tab rs) h k = k rs refl
is_flat (Fault f) h k = tt

-- so control never comes to another type
pub rec_stays : (v : Value) (fs : List (List ℕ × Data)) (t : Ty) → v ≡ Rec fs → CanWiden (view v) (shape t) → ((x : List (List ℕ × Shape)) → t ≡ RecTy x → ⊥) → ⊥
rec_stays v fs t e can h =
    let P : Value → Type 0 = λ z. CanWiden (view z) (shape t) in
    by t (rec_to_records (field_list fs) (shape t) (subst P e can)) h
  where
    by : (t : Ty) → (cs : ColumnList) × (shape t ≡ records cs) → ((x : List (List ℕ × Shape)) → t ≡ RecTy x → ⊥) → ⊥
    by (RecTy cs) q h = h cs refl
    by _ q h = let e = q.1 in cc

pub tab_stays : (v : Value) (rs : List (List (List ℕ × Data))) (t : Ty) → v ≡ Tab rs → CanWiden (view v) (shape t) → ((x : List (List ℕ × Shape)) → t ≡ TabTy x → ⊥) → ⊥
tab_stays v rs t e can h =
    let P : Value → Type 0 = λ z. CanWiden (view z) (shape t) in
    by t (tab_to_tables (row_list rs) (shape t) (subst P e can)) h
  where
    by : (t : Ty) → (cs : ColumnList) × (shape t ≡ tables cs) → ((x : List (List ℕ × Shape)) → t ≡ TabTy x → ⊥) → ⊥
    by (TabTy cs) q h = h cs refl
    by _ q h = let e = q.1 in cc
