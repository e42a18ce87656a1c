-- The rows of a table that pass a test, in an order: there is one such list.
use Rattle.std.proofs.Common.{◌≡◌, ℕ, zero, suc, ◌+◌, ◌<◌, List, [], ◌∷◌, length, get_or, Bool, true, false, Option, Some, None, refl, sym, ap, subst, ◌∙◌, arith, cond, if◌then◌else◌}
use Rattle.std.specs.Prelude.{◌&&◌}
use Rattle.std.specs.List.{AllByRecursion, filter}
use Rattle.std.specs.List.Sorted.{IsPermutation, IsSortedBy, ties}
use Rattle.std.specs.Ordering.{is_lt, nat_cmp}
use Rattle.std.specs.Cmp.{IsTotalOrder, IsStrictWeakOrder}
use Rattle.std.specs.declared.cmp.Ordering.{Ordering}
use Rattle.std.specs.declared.cmp.Ordering.TheVariants.{Less, Equal, Greater}
use Rattle.std.proofs.lemmas.Bool.Decides.{nat_tests}
use Rattle.std.proofs.lemmas.List.Elements.{All-from_recursion, filter_agree, recursion_from_All}
use Rattle.std.proofs.lemmas.List.Kept.{IsSortedBy-filter}
use Rattle.std.proofs.lemmas.List.Sorted.{All-permutation, IsPermutation-cons, IsPermutation-middle, IsPermutation-refl, IsPermutation-trans, ranks_by, sum_by-IsPermutation}
use Rattle.fx_value.proofs.RowOrders.{sorted_once}
use Rattle.fx_value.specs.Order.{order}
use Rattle.row_queries.proofs.Asked.{IsOwn, all_one, counted, numbered, one_of, own_rows, passed, passing, row_total, tied_number}
use Rattle.row_queries.specs.Queries.{row_order}
use Rattle.row_queries.specs.TableRows.{AreInIdOrder}
use Rattle.row_queries.specs.declared.rows.Row.{Row}

-- ---- sorted lists, element by element
module _ {X : Type 0} (lt : X → X → Bool) where
  abbrev pub Rises : List X → Type 0
  Rises [] = Unit {0}
  Rises (x ∷ []) = Unit {0}
  Rises (x ∷ y ∷ ys) = (lt y x ≡ false) × Rises (y ∷ ys)

  pub sorted_of : (xs : List X) → Rises xs → IsSortedBy lt xs
  sorted_of [] r k d low high = absurd (omega (arith, high))
  sorted_of (x ∷ []) r k d low high = absurd (omega (arith, high))
  sorted_of (x ∷ y ∷ ys) r zero d low high = r.0
  sorted_of (x ∷ y ∷ ys) r (suc k) d low high =
      let e : suc (k + 1) ≡ suc k + 1 = omega arith in
      let P : ℕ → Type 0 = λ i. lt (get_or (x ∷ y ∷ ys) i d) (get_or (y ∷ ys) k d) ≡ false in
      subst P e (sorted_of (y ∷ ys) r.1 k d (omega arith) (omega (arith, high)))

  pub rises_of : (xs : List X) → IsSortedBy lt xs → Rises xs
  rises_of [] s = tt
  rises_of (x ∷ []) s = tt
  rises_of (x ∷ y ∷ ys) s = (s zero x (omega arith) (omega arith), rises_of (y ∷ ys) (tail x (y ∷ ys) s))
    where
      tail : (z : X) (zs : List X) → IsSortedBy lt (z ∷ zs) → IsSortedBy lt zs
      tail z zs t k d low high =
          let e : suc k + 1 ≡ suc (k + 1) = omega arith in
          let P : ℕ → Type 0 = λ i. lt (get_or (z ∷ zs) i d) (get_or zs k d) ≡ false in
          subst P e (t (suc k) d (omega arith) (omega (arith, high)))

  -- an element in its place
  abbrev pub put : X → List X → List X
  put x [] = x ∷ []
  put x (y ∷ ys) = if lt y x then y ∷ put x ys else x ∷ y ∷ ys

  abbrev pub arranged : List X → List X
  arranged [] = []
  arranged (x ∷ xs) = put x (arranged xs)

  put_rises : IsStrictWeakOrder lt → (x : X) (ys : List X) → Rises ys → Rises (put x ys)
  put_rises o x [] r = tt
  put_rises o x (y ∷ []) r = by (lt y x) refl
    where
      by : (b : Bool) → lt y x ≡ b → Rises (if b then y ∷ x ∷ [] else x ∷ y ∷ [])
      by true e = (o.one_way y x e, tt)
      by false e = (e, tt)
  put_rises o x (y ∷ z ∷ zs) r = by (lt y x) refl (lt z x) refl (put_rises o x (z ∷ zs) r.1)
    where
      by : (b : Bool) → lt y x ≡ b → (c : Bool) → lt z x ≡ c → Rises (if c then z ∷ put x zs else x ∷ z ∷ zs) → Rises (if b then y ∷ (if c then z ∷ put x zs else x ∷ z ∷ zs) else x ∷ y ∷ z ∷ zs)
      by true e true f h = (r.0, h)
      by true e false f h = (o.one_way y x e, h)
      by false e c f h = (e, r)

  pub arranged_rise : IsStrictWeakOrder lt → (xs : List X) → Rises (arranged xs)
  arranged_rise o [] = tt
  arranged_rise o (x ∷ xs) = put_rises o x (arranged xs) (arranged_rise o xs)

  put_same : (x : X) (ys : List X) → IsPermutation (x ∷ ys) (put x ys)
  put_same x [] = IsPermutation-refl (x ∷ [])
  put_same x (y ∷ ys) = by (lt y x) (put_same x ys)
    where
      turned : IsPermutation (x ∷ y ∷ ys) (y ∷ x ∷ ys)
      turned = IsPermutation-middle (x ∷ []) y ys

      by : (b : Bool) → IsPermutation (x ∷ ys) (put x ys) → IsPermutation (x ∷ y ∷ ys) (if b then y ∷ put x ys else x ∷ y ∷ ys)
      by true h = IsPermutation-trans (x ∷ y ∷ ys) (y ∷ x ∷ ys) (y ∷ put x ys) turned (IsPermutation-cons y (x ∷ ys) (put x ys) h)
      by false h = IsPermutation-refl (x ∷ y ∷ ys)

  pub arranged_same : (xs : List X) → IsPermutation xs (arranged xs)
  arranged_same [] = IsPermutation-refl []
  arranged_same (x ∷ xs) =
      IsPermutation-trans (x ∷ xs) (x ∷ arranged xs) (put x (arranged xs)) (IsPermutation-cons x xs (arranged xs) (arranged_same xs)) (put_same x (arranged xs))

-- ---- lists that pass tests
module _ {X : Type 0} where
  pub filter_twice : (p q : X → Bool) (xs : List X) → filter q (filter p xs) ≡ filter (λ x. p x && q x) xs
  filter_twice p q [] = refl
  filter_twice p q (x ∷ xs) = by (p x) (filter_twice p q xs)
    where
      by : (b : Bool) → filter q (filter p xs) ≡ filter (λ y. p y && q y) xs →
          filter q (cond b (x ∷ filter p xs) (filter p xs)) ≡ cond (b && q x) (x ∷ filter (λ y. p y && q y) xs) (filter (λ y. p y && q y) xs)
      by true h = ap (λ ys. cond (q x) (x ∷ ys) ys) h
      by false h = h

  pub filter_same : (p q : X → Bool) (xs : List X) → AllByRecursion (λ x. p x ≡ q x) xs → filter p xs ≡ filter q xs
  filter_same p q [] h = refl
  filter_same p q (x ∷ xs) h = ap (λ b. cond b (x ∷ filter p xs) (filter p xs)) h.0 ∙ ap (λ ys. cond (q x) (x ∷ ys) ys) (filter_same p q xs h.1)

  pub filter_whole : (p : X → Bool) (xs : List X) → ((x : X) → p x ≡ true) → filter p xs ≡ xs
  filter_whole p [] h = refl
  filter_whole p (x ∷ xs) h = ap (λ b. cond b (x ∷ filter p xs) (filter p xs)) (h x) ∙ ap (λ ys. x ∷ ys) (filter_whole p xs h)

  pub also_all : (P Q : X → Type 0) → ((x : X) → P x → Q x) → (xs : List X) → AllByRecursion P xs → AllByRecursion Q xs
  also_all P Q f [] h = tt
  also_all P Q f (x ∷ xs) h = (f x h.0, also_all P Q f xs h.1)

abbrev pub before : Option (ℕ × Bool) → Row → Row → Bool
before o x y = is_lt (row_order o x y)

pub before_is_order : IsTotalOrder order → (o : Option (ℕ × Bool)) → IsStrictWeakOrder (before o)
before_is_order t o = ranks_by (row_total t o) (λ (r : Row). r)

-- ---- the rows that pass a test

-- these are the rows that pass, in whatever order
pub record Holds (rows : List Row) (p : Row → Bool) (ys : List Row) : Type 0 where
  pub counts : (f : Row → Bool) → length (filter f ys) ≡ length (filter (λ r. p r && f r) rows)
  pub owns : AllByRecursion (IsOwn rows) ys

pub holds_all : (rows : List Row) → AreInIdOrder rows → Holds rows (λ r. true) rows
holds_all rows h = record { counts = λ f. refl; owns = own_rows rows h }

and_assoc : (a b c : Bool) → (a && (b && c)) ≡ ((a && b) && c)
and_assoc true b c = refl
and_assoc false b c = refl

pub holds_filter : (rows ys : List Row) (p m : Row → Bool) → Holds rows p ys → Holds rows (λ r. p r && m r) (filter m ys)
holds_filter rows ys p m h = record {
  counts = λ f. ap length (filter_twice m f ys) ∙ h.counts (λ r. m r && f r) ∙ ap length (filter_agree (λ r. p r && (m r && f r)) (λ r. (p r && m r) && f r) (λ r. and_assoc (p r) (m r) (f r)) rows);
  owns = passing (IsOwn rows) m ys h.owns;
}

pub holds_agree : (rows ys : List Row) (p q : Row → Bool) → AllByRecursion (λ r. p r ≡ q r) rows → Holds rows p ys → Holds rows q ys
holds_agree rows ys p q e h = record {
  counts = λ f. h.counts f ∙ ap length (filter_same (λ r. p r && f r) (λ r. q r && f r) rows (also_all (λ r. p r ≡ q r) (λ r. (p r && f r) ≡ (q r && f r)) (λ r k. ap (λ b. b && f r) k) rows e));
  owns = h.owns;
}

pub holds_moved : (rows xs ys : List Row) (p : Row → Bool) → IsPermutation xs ys → Holds rows p xs → Holds rows p ys
holds_moved rows xs ys p m h = record {
  counts = λ f. counted f ys ∙ sum_by-IsPermutation (one_of f) xs ys m ∙ sym (counted f xs) ∙ h.counts f;
  owns = recursion_from_All (IsOwn rows) ys (All-permutation (IsOwn rows) xs ys m (All-from_recursion (IsOwn rows) xs h.owns));
}

-- in one order there is one list of them
pub same_rows : IsTotalOrder order → (o : Option (ℕ × Bool)) (rows ys zs : List Row) (p : Row → Bool) → Holds rows p ys → Holds rows p zs → IsSortedBy (before o) ys → IsSortedBy (before o) zs → ys ≡ zs
same_rows t o rows ys zs p h k s u =
    sorted_once (before o) (before_is_order t o) ys zs s u (λ z.
    all_one (numbered z.id rows) (filter (ties (before o) z) ys) (filter (ties (before o) z) zs)
    (h.counts (ties (before o) z) ∙ sym (k.counts (ties (before o) z)))
    (tied z ys h.owns)
    (tied z zs k.owns))
  where
    tied : (z : Row) (rs : List Row) → AllByRecursion (IsOwn rows) rs → AllByRecursion (λ r. numbered z.id rows ≡ Some r) (filter (ties (before o) z) rs)
    tied z rs w = passed (IsOwn rows) (λ r. numbered z.id rows ≡ Some r) (ties (before o) z) (λ r e q. ap (λ n. numbered n rows) (tied_number t o z r e) ∙ q) rs w

-- ---- all rows in an order

abbrev pub in_order : Option (ℕ × Bool) → List Row → List Row
in_order o rows = arranged (before o) rows

pub in_order_sorted : IsTotalOrder order → (o : Option (ℕ × Bool)) (rows : List Row) → IsSortedBy (before o) (in_order o rows)
in_order_sorted t o rows = sorted_of (before o) (in_order o rows) (arranged_rise (before o) (before_is_order t o) rows)

pub in_order_holds : (o : Option (ℕ × Bool)) (rows xs : List Row) (p : Row → Bool) → Holds rows p xs → Holds rows p (in_order o xs)
in_order_holds o rows xs p h = holds_moved rows xs (in_order o xs) p (arranged_same (before o) xs) h

-- what passes of all rows in an order
pub kept_sorted : IsTotalOrder order → (o : Option (ℕ × Bool)) (m : Row → Bool) (rows : List Row) → IsSortedBy (before o) rows → IsSortedBy (before o) (filter m rows)
kept_sorted t o m rows s = IsSortedBy-filter (before o) (before_is_order t o) m rows s

-- rows by rising numbers are in their own order
below_first : (r s : Row) → r.id < s.id → before None s r ≡ false
below_first r s l = by (nat_cmp s.id r.id) refl
  where
    by : (x : Ordering) → nat_cmp s.id r.id ≡ x → is_lt x ≡ false
    by Less e = absurd (grind (arith, nat_tests, e, l))
    by Equal e = refl
    by Greater e = refl

id_rises : (rows : List Row) → AreInIdOrder rows → Rises (before None) rows
id_rises [] h = tt
id_rises (r ∷ []) h = tt
id_rises (r ∷ s ∷ ss) h = (below_first r s h.0.0, id_rises (s ∷ ss) h.1)

pub by_number : (rows : List Row) → AreInIdOrder rows → IsSortedBy (before None) rows
by_number rows h = sorted_of (before None) rows (id_rises rows h)

pub in_own_order : IsTotalOrder order → (rows : List Row) → AreInIdOrder rows → in_order None rows ≡ rows
in_own_order t rows h =
    same_rows t None rows (in_order None rows) rows (λ r. true) (in_order_holds None rows rows (λ r. true) (holds_all rows h)) (holds_all rows h) (in_order_sorted t None rows) (by_number rows h)
