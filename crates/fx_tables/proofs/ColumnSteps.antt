-- How records keep rising names while their fields change.
use Rattle.std.proofs.Common.{◌≡◌, ℕ, zero, suc, ◌+◌, List, [], ◌∷◌, ◌++◌, get_or, map, Bool, true, false, not, bytes_eq, Some, None, option_map, unwrap_or, refl, sym, ap, subst, ◌∙◌, arith, cond, if◌then◌else◌, append_assoc}
use Rattle.std.specs.List.{filter, insert, remove, slice_get, position_or_len}
use Rattle.std.specs.Cmp.Lexicographic.{slice_cmp}
use Rattle.std.specs.Ordering.{nat_cmp, is_lt}
use Rattle.std.specs.declared.cmp.Ordering.{Ordering}
use Rattle.std.specs.declared.cmp.Ordering.TheVariants.{Less, Equal, Greater}
use Rattle.std.proofs.lemmas.Cmp.{nat_list_cmp_total}
use Rattle.std.proofs.lemmas.Map.Lookups.{exact_bytes}
use Rattle.std.specs.Cmp.{tied_itself}
use Rattle.fx_types.specs.Lookup.{item_named}
use Rattle.fx_types.specs.Rising.{IsBelow, IsNameBelowAll, AreNamesRising}
use Rattle.fx_types.specs.Values.{Data, blank}
use Rattle.fx_types.specs.ValueView.{view, fields_view}
use Rattle.fx_types.specs.declared.values.Value.{Value}
use Rattle.fx_types.proofs.Risings.{rising_filter}
use Rattle.fx_value.proofs.Widenings.{own_name, same_name}
use Rattle.fx_value.proofs.Unions.{below}
use Rattle.fx_value.specs.Columns.{Row, with_field, fields_without, rows_with_column}

-- a name is not below itself
pub not_below_itself : (n : List ℕ) → IsBelow n n → ⊥
not_below_itself n h = let tied = tied_itself nat_list_cmp_total n in cc

-- a name is another than those above it
apart : (n m : List ℕ) → IsBelow n m → bytes_eq n m ≡ false
apart n m h = by (bytes_eq n m) refl
  where
    by : (b : Bool) → bytes_eq n m ≡ b → b ≡ false
    by true e = let P : List ℕ → Type 0 = λ z. IsBelow n z in absurd (not_below_itself n (subst P (sym (same_name n m e)) h))
    by false e = refl

apart_other : (n m : List ℕ) → IsBelow n m → bytes_eq m n ≡ false
apart_other n m h = by (bytes_eq m n) refl
  where
    by : (b : Bool) → bytes_eq m n ≡ b → b ≡ false
    by true e = let P : List ℕ → Type 0 = λ z. IsBelow n z in absurd (not_below_itself n (subst P (same_name m n e) h))
    by false e = refl

below_further : (n m : List ℕ) (fs : Row) → IsBelow n m → IsNameBelowAll m fs → IsNameBelowAll n fs
below_further n m [] h k = tt
below_further n m (f ∷ fs) h k = (nat_list_cmp_total.trans n m f.0 h k.0, below_further n m fs h k.1)

-- one more field keeps names rising
below_with : (m n : List ℕ) (d : Data) (fs : Row) → IsBelow m n → IsNameBelowAll m fs → IsNameBelowAll m (with_field n d fs)
below_with m n d [] h k = (h, tt)
below_with m n d (f ∷ fs) h k = by (is_lt (slice_cmp nat_cmp n f.0)) (below_with m n d fs h k.1)
  where
    by : (b : Bool) → IsNameBelowAll m (with_field n d fs) → IsNameBelowAll m (if b then (n, d) ∷ f ∷ fs else f ∷ with_field n d fs)
    by true r = (h, k)
    by false r = (k.0, r)

pub lacks_first : (n : List ℕ) (f : List ℕ × Data) (fs : Row) → item_named n (f ∷ fs) ≡ None → bytes_eq f.0 n ≡ false
lacks_first n f fs e = by (bytes_eq f.0 n) e
  where
    by : (b : Bool) → (if b then Some f.1 else item_named n fs) ≡ None → b ≡ false
    by true e = cc
    by false e = refl

pub lacks_rest : (n : List ℕ) (f : List ℕ × Data) (fs : Row) → item_named n (f ∷ fs) ≡ None → item_named n fs ≡ None
lacks_rest n f fs e = by (bytes_eq f.0 n) e
  where
    by : (b : Bool) → (if b then Some f.1 else item_named n fs) ≡ None → item_named n fs ≡ None
    by true e = cc
    by false e = e

pub rising_with : (n : List ℕ) (d : Data) (fs : Row) → AreNamesRising fs → item_named n fs ≡ None → AreNamesRising (with_field n d fs)
rising_with n d [] r e = (tt, tt)
rising_with n d (f ∷ fs) r e = by (slice_cmp nat_cmp n f.0) refl (rising_with n d fs r.1 (lacks_rest n f fs e))
  where
    by : (o : Ordering) → slice_cmp nat_cmp n f.0 ≡ o → AreNamesRising (with_field n d fs) → AreNamesRising (if is_lt o then (n, d) ∷ f ∷ fs else f ∷ with_field n d fs)
    by Less c rest = ((c, below_further n f.0 fs c r.0), r)
    by Equal c rest =
        let same : n ≡ f.0 = exact_bytes n f.0 c in
        let other = lacks_first n f fs e in
        let P : List ℕ → Type 0 = λ z. bytes_eq f.0 z ≡ true in
        let own : bytes_eq f.0 n ≡ true = subst P (sym same) (own_name f.0) in
        cc
    by Greater c rest = (below_with f.0 n d fs (below f.0 n c) r.0, rest)

-- the place of a name among fields is where one more goes
pub inserted : (n : List ℕ) (v : Value) (xs : List (List ℕ × Value)) → fields_view (insert xs (position_or_len (λ f. is_lt (slice_cmp nat_cmp n f.0)) xs) (n, v)) ≡ with_field n (view v) (fields_view xs)
inserted n v [] = refl
inserted n v (f ∷ xs) = by (is_lt (slice_cmp nat_cmp n f.0)) (inserted n v xs)
  where
    after : (i : ℕ) → fields_view (insert xs i (n, v)) ≡ with_field n (view v) (fields_view xs) → fields_view (insert (f ∷ xs) (1 + i) (n, v)) ≡ (f.0, view f.1) ∷ with_field n (view v) (fields_view xs)
    after i h = let e : 1 + i ≡ suc i = omega arith in rw e (ap (λ gs. (f.0, view f.1) ∷ gs) h)

    by : (b : Bool) → fields_view (insert xs (position_or_len (λ g. is_lt (slice_cmp nat_cmp n g.0)) xs) (n, v)) ≡ with_field n (view v) (fields_view xs) → fields_view (insert (f ∷ xs) (cond (not b) (1 + position_or_len (λ g. is_lt (slice_cmp nat_cmp n g.0)) xs) 0) (n, v)) ≡ (if b then (n, view v) ∷ (f.0, view f.1) ∷ fields_view xs else (f.0, view f.1) ∷ with_field n (view v) (fields_view xs))
    by true h = refl
    by false h = after (position_or_len (λ g. is_lt (slice_cmp nat_cmp n g.0)) xs) h

-- a filter of seen items is what is seen of a filter
pub seen_filter : (p : List ℕ × Data → Bool) (xs : List (List ℕ × Value)) → fields_view (filter (λ f. p (f.0, view f.1)) xs) ≡ filter p (fields_view xs)
seen_filter p [] = refl
seen_filter p (f ∷ xs) = by (p (f.0, view f.1)) (seen_filter p xs)
  where
    by : (b : Bool) → fields_view (filter (λ g. p (g.0, view g.1)) xs) ≡ filter p (fields_view xs) → fields_view (cond b (f ∷ filter (λ g. p (g.0, view g.1)) xs) (filter (λ g. p (g.0, view g.1)) xs)) ≡ cond b ((f.0, view f.1) ∷ filter p (fields_view xs)) (filter p (fields_view xs))
    by true h = ap (λ gs. (f.0, view f.1) ∷ gs) h
    by false h = h

-- what is not among fields is not among some of them
pub lacks_filter : (m : List ℕ) (p : List ℕ × Data → Bool) (fs : Row) → item_named m fs ≡ None → item_named m (filter p fs) ≡ None
lacks_filter m p [] e = refl
lacks_filter m p (f ∷ fs) e = by (p f) (lacks_filter m p fs (lacks_rest m f fs e))
  where
    by : (b : Bool) → item_named m (filter p fs) ≡ None → item_named m (cond b (f ∷ filter p fs) (filter p fs)) ≡ None
    by true rest = rw (lacks_first m f fs e) rest
    by false rest = rest

-- a field that is taken out
abbrev pub IsNamed : List ℕ → List (List ℕ × Value) → ℕ → Type 0
IsNamed n xs i = option_map (λ (f : List ℕ × Value). f.0) (slice_get xs i) ≡ Some n

below_named : (m n : List ℕ) (xs : List (List ℕ × Value)) (i : ℕ) → IsNameBelowAll m (fields_view xs) → IsNamed n xs i → IsBelow m n
below_named m n [] i b e = cc
below_named m n (f ∷ xs) zero b e = let q : f.0 ≡ n = cc in subst (IsBelow m) q b.0
below_named m n (f ∷ xs) (suc i) b e = below_named m n xs i b.1 e

pub taken_value : (n : List ℕ) (xs : List (List ℕ × Value)) (i : ℕ) (x : List ℕ × Value) → AreNamesRising (fields_view xs) → IsNamed n xs i → x ≡ get_or xs i x → view x.1 ≡ unwrap_or (item_named n (fields_view xs)) blank
taken_value n [] i x r e q = cc
taken_value n (f ∷ xs) zero x r e q =
    let same : f.0 ≡ n = cc in
    let P : List ℕ → Type 0 = λ z. bytes_eq f.0 z ≡ true in
    let own : bytes_eq f.0 n ≡ true = subst P same (own_name f.0) in
    rw own (ap (λ (g : List ℕ × Value). view g.1) q)
taken_value n (f ∷ xs) (suc i) x r e q =
    let other : bytes_eq f.0 n ≡ false = apart f.0 n (below_named f.0 n xs i r.0 e) in
    rw other (taken_value n xs i x r.1 e q)

all_others : (n : List ℕ) (fs : Row) → IsNameBelowAll n fs → fs ≡ fields_without n fs
all_others n [] b = refl
all_others n (f ∷ fs) b = rw (apart_other n f.0 b.0) (ap (λ gs. f ∷ gs) (all_others n fs b.1))

pub taken_rest : (n : List ℕ) (xs : List (List ℕ × Value)) (i : ℕ) → AreNamesRising (fields_view xs) → IsNamed n xs i → fields_view (remove xs i) ≡ fields_without n (fields_view xs)
taken_rest n [] i r e = cc
taken_rest n (f ∷ xs) zero r e =
    let same : f.0 ≡ n = cc in
    let P : List ℕ → Type 0 = λ z. bytes_eq f.0 z ≡ true in
    let own : bytes_eq f.0 n ≡ true = subst P same (own_name f.0) in
    let Q : List ℕ → Type 0 = λ z. IsNameBelowAll z (fields_view xs) in
    rw own (all_others n (fields_view xs) (subst Q same r.0))
taken_rest n (f ∷ xs) (suc i) r e =
    let other : bytes_eq f.0 n ≡ false = apart f.0 n (below_named f.0 n xs i r.0 e) in
    rw other (ap (λ gs. (f.0, view f.1) ∷ gs) (taken_rest n xs i r.1 e))

-- where there is no such field, none is taken
pub lacking_rest : (n : List ℕ) (fs : Row) → item_named n fs ≡ None → fs ≡ fields_without n fs
lacking_rest n [] e = refl
lacking_rest n (f ∷ fs) e = rw (lacks_first n f fs e) (ap (λ gs. f ∷ gs) (lacking_rest n fs (lacks_rest n f fs e)))

pub rising_without : (n : List ℕ) (r : Row) → AreNamesRising r → AreNamesRising (fields_without n r)
rising_without n r h = rising_filter (λ f. not (bytes_eq f.0 n)) r h

pub lacks_without : (m n : List ℕ) (r : Row) → item_named m r ≡ None → item_named m (fields_without n r) ≡ None
lacks_without m n r h = lacks_filter m (λ f. not (bytes_eq f.0 n)) r h

-- what an insert at that place makes
pub put_in : (n : List ℕ) (v : Value) (xs zs ys : List (List ℕ × Value)) (r : Row) (i : ℕ) → zs ≡ xs → fields_view xs ≡ r → AreNamesRising r → item_named n r ≡ None → i ≡ position_or_len (λ f. is_lt (slice_cmp nat_cmp n f.0)) zs → ys ≡ insert xs i (n, v) → AreNamesRising (fields_view ys) × (fields_view ys ≡ with_field n (view v) r)
put_in n v xs zs ys r i same seen rises lacks at put =
    let place : i ≡ position_or_len (λ f. is_lt (slice_cmp nat_cmp n f.0)) xs = at ∙ ap (position_or_len (λ f. is_lt (slice_cmp nat_cmp n f.0))) same in
    let made : fields_view ys ≡ with_field n (view v) r = ap fields_view put ∙ ap (λ k. fields_view (insert xs k (n, v))) place ∙ inserted n v xs ∙ ap (with_field n (view v)) seen in
    (subst AreNamesRising (sym made) (rising_with n (view v) r rises lacks), made)

-- a loop that makes a row of each
pub step_rows : {X Y : Type 0} (f : X → Y) (done : List Y) (x : X) (rest left : List X) (all : List Y) (y : Y) → left ≡ x ∷ rest → y ≡ f x → done ++ map f left ≡ all → (done ++ y ∷ []) ++ map f rest ≡ all
step_rows f done x rest left all y e q h =
    append_assoc done (y ∷ []) (map f rest) ∙ ap (λ z. done ++ z ∷ map f rest) q ∙ ap (λ z. done ++ map f z) (sym e) ∙ h

-- a loop that puts a value into each row
pub step_with : (n : List ℕ) (done : List Row) (r : Row) (rest left : List Row) (v : Value) (vs ws : List Value) (all : List Row) (y : Row) → left ≡ r ∷ rest → ws ≡ v ∷ vs → y ≡ with_field n (view v) r → done ++ rows_with_column n left (map view ws) ≡ all → (done ++ y ∷ []) ++ rows_with_column n rest (map view vs) ≡ all
step_with n done r rest left v vs ws all y e g q h =
    let back : done ++ rows_with_column n (r ∷ rest) (map view (v ∷ vs)) ≡ done ++ rows_with_column n left (map view ws) = λ i. done ++ rows_with_column n (sym e i) (map view (sym g i)) in
    append_assoc done (y ∷ []) (rows_with_column n rest (map view vs)) ∙ ap (λ z. done ++ z ∷ rows_with_column n rest (map view vs)) q ∙ back ∙ h
