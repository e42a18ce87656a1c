-- Rows by their numbers and keys, as lines are put.
use Rattle.std.proofs.Common.{◌≡◌, ◌≢◌, ◌∙◌, ℕ, suc, ◌+◌, ◌≤◌, ◌==◌, Bool, true, false, not, ◌⊎◌, inl, inr, cond, List, [], ◌∷◌, ◌++◌, map, Some, None, refl, sym, ap, subst, arith}
use Rattle.std.specs.Prelude.{slice_get, unwrap_or}
use Rattle.std.specs.List.{AllByRecursion, list_any}
use Rattle.std.specs.Cmp.{IsTotalOrder}
use Rattle.std.specs.Ordering.{is_eq}
use Rattle.std.specs.declared.cmp.Ordering.{Ordering}
use Rattle.std.specs.declared.cmp.Ordering.TheVariants.{Less, Equal, Greater}
use Rattle.std.proofs.lemmas.Bool.{eq-eqb, ne_eqb, or_from, or_parts}
use Rattle.std.proofs.lemmas.Cmp.{tied_back, tied_itself}
use Rattle.std.proofs.lemmas.Option.{same_Some}
use Rattle.fx_types.specs.Values.{Data, blank, number, text, boolean, date, rec, tab, fault}
use Rattle.fx_value.specs.Order.{order}
use Rattle.row_queries.specs.TableRows.{AreInIdOrder, IsBelowAll}
use Rattle.row_queries.specs.declared.rows.Row.{Row}
use Rattle.row_keeper.specs.RowRules.{is_same_key, others}
use Rattle.row_keeper.specs.Tables.{has_id}
use Rattle.row_imports.specs.Imports.{keyed}

-- ---- values that count as one

-- the value at a place counts as this one
abbrev pub is_at : ℕ → Data → List Data → Bool
is_at place d cells = is_same_key (unwrap_or (slice_get cells place) blank) d

is_equal : (o : Ordering) → is_eq o ≡ true → o ≡ Equal
is_equal Less e = absurd cc
is_equal Equal e = refl
is_equal Greater e = absurd cc

pub same_itself : IsTotalOrder order → (d : Data) → is_same_key d d ≡ true
same_itself total d = ap is_eq (tied_itself total d)

-- what counts as one value is no other
pub same_as : IsTotalOrder order → (a b c : Data) → is_same_key a b ≡ true → is_same_key a c ≡ is_same_key b c
same_as total a b c e = ap is_eq (total.congr a b c (is_equal (order a b) e))

pub turned_same : IsTotalOrder order → (a b : Data) → is_same_key a b ≡ false → is_same_key b a ≡ false
turned_same total a b e = by (is_same_key b a) refl
  where
    clash : true ≡ false → ⊥
    clash q = cc

    by : (t : Bool) → is_same_key b a ≡ t → t ≡ false
    by true h = absurd (clash (sym (ap is_eq (tied_back total b a (is_equal (order b a) h))) ∙ e))
    by false h = refl

-- blank is nothing else
pub blank_alone : (d : Data) → d ≢ blank → is_same_key blank d ≡ false
blank_alone blank n = absurd (n refl)
blank_alone (number z) n = refl
blank_alone (text cs) n = refl
blank_alone (boolean b) n = refl
blank_alone (date z) n = refl
blank_alone (rec fs) n = refl
blank_alone (tab rs) n = refl
blank_alone (fault k cs) n = refl

-- ---- rows by numbers

abbrev pub put_in : ℕ → List Data → Row → Row
put_in id cs r = cond (has_id id r) (record { id = r.id; cells = cs }) r

abbrev pub HasNone : ℕ → List Row → Type 0
HasNone id [] = Unit {0}
HasNone id (r ∷ rs) = ((r.id == id) ≡ false) × HasNone id rs

abbrev pub AreApart : List Row → Type 0
AreApart [] = Unit {0}
AreApart (r ∷ rs) = HasNone r.id rs × AreApart rs

abbrev pub AreBelow : ℕ → List Row → Type 0
AreBelow n rs = AllByRecursion (λ (r : Row). r.id ≤ n) rs

itself : (n : ℕ) → (n == n) ≡ true
itself n = eq-eqb n n refl

pub turned : (a b : ℕ) → (a == b) ≡ false → (b == a) ≡ false
turned a b e = ne_eqb b a (λ p. cc (sym e ∙ eq-eqb a b (sym p)))

none_rising : (id : ℕ) (rs : List Row) → IsBelowAll id rs → HasNone id rs
none_rising id [] h = tt
none_rising id (r ∷ rs) h = (ne_eqb r.id id (λ e. absurd (omega (arith, e, h.0))), none_rising id rs h.1)

pub apart_rising : (rs : List Row) → AreInIdOrder rs → AreApart rs
apart_rising [] h = tt
apart_rising (r ∷ rs) h = (none_rising r.id rs h.0, apart_rising rs h.1)

not_here : (id : ℕ) (cs : List Data) (r : Row) → (r.id == id) ≡ false → put_in id cs r ≡ r
not_here id cs r e = ap (λ b. cond b (record { id = r.id; cells = cs }) r) e

is_here : (id : ℕ) (cs : List Data) (r : Row) → (r.id == id) ≡ true → put_in id cs r ≡ record { id = r.id; cells = cs }
is_here id cs r e = ap (λ b. cond b (record { id = r.id; cells = cs }) r) e

left_alone : (id : ℕ) (cs : List Data) (rs : List Row) → HasNone id rs → map (put_in id cs) rs ≡ rs
left_alone id cs [] h = refl
left_alone id cs (r ∷ rs) h = λ i. not_here id cs r h.0 i ∷ left_alone id cs rs h.1 i

-- a put changes a row's cells alone
put_id : (id : ℕ) (cs : List Data) (r : Row) → (put_in id cs r).id ≡ r.id
put_id id cs r = by (r.id == id)
  where
    by : (b : Bool) → (cond b (record { id = r.id; cells = cs }) r).id ≡ r.id
    by true = refl
    by false = refl

none_put : (n id : ℕ) (cs : List Data) (rs : List Row) → HasNone n rs → HasNone n (map (put_in id cs) rs)
none_put n id cs [] h = tt
none_put n id cs (r ∷ rs) h = (ap (λ m. m == n) (put_id id cs r) ∙ h.0, none_put n id cs rs h.1)

pub apart_put : (id : ℕ) (cs : List Data) (rs : List Row) → AreApart rs → AreApart (map (put_in id cs) rs)
apart_put id cs [] h = tt
apart_put id cs (r ∷ rs) h =
    (subst (λ n. HasNone n (map (put_in id cs) rs)) (sym (put_id id cs r)) (none_put r.id id cs rs h.0), apart_put id cs rs h.1)

pub below_put : (n id : ℕ) (cs : List Data) (rs : List Row) → AreBelow n rs → AreBelow n (map (put_in id cs) rs)
below_put n id cs [] h = tt
below_put n id cs (r ∷ rs) h = (subst (λ m. m ≤ n) (sym (put_id id cs r)) h.0, below_put n id cs rs h.1)

-- a number above all is none
pub none_above : (n : ℕ) (rs : List Row) → AreBelow n rs → HasNone (n + 1) rs
none_above n [] h = tt
none_above n (r ∷ rs) h = (ne_eqb r.id (n + 1) (λ e. absurd (omega (arith, e, h.0))), none_above n rs h.1)

none_more : (id : ℕ) (rs : List Row) (x : Row) → HasNone id rs → (x.id == id) ≡ false → HasNone id (rs ++ x ∷ [])
none_more id [] x h e = (e, tt)
none_more id (r ∷ rs) x h e = (h.0, none_more id rs x h.1 e)

pub apart_more : (n : ℕ) (rs : List Row) (x : Row) → AreApart rs → AreBelow n rs → x.id ≡ n + 1 → AreApart (rs ++ x ∷ [])
apart_more n [] x h b e = (tt, tt)
apart_more n (r ∷ rs) x h b e =
    (none_more r.id rs x h.0 (ne_eqb x.id r.id (λ p. absurd (omega (arith, p, e, b.0)))), apart_more n rs x h.1 b.1 e)

pub below_more : (n : ℕ) (rs : List Row) (x : Row) → AreBelow n rs → x.id ≡ n + 1 → AreBelow (n + 1) (rs ++ x ∷ [])
below_more n [] x b e = (omega (arith, e), tt)
below_more n (r ∷ rs) x b e = (omega (arith, b.0), below_more n rs x b.1 e)

-- ---- rows among others

abbrev pub Has : Row → List Row → Type 0
Has r [] = ⊥
Has r (x ∷ xs) = (x ≡ r) ⊎ Has r xs

pub number_of : (id : ℕ) (rs : List Row) (r : Row) → HasNone id rs → Has r rs → (r.id == id) ≡ false
number_of id [] r h i = absurd i
number_of id (x ∷ xs) r h (inl e) = subst (λ (y : Row). (y.id == id) ≡ false) e h.0
number_of id (x ∷ xs) r h (inr i) = number_of id xs r h.1 i

pub keyed_has : (p : ℕ) (d : Data) (rs : List Row) (r : Row) → keyed (suc p) d rs ≡ Some r → Has r rs × (is_at p d r.cells ≡ true)
keyed_has p d [] r e = absurd cc
keyed_has p d (x ∷ xs) r e = by (λ q. keyed_has p d xs r q) (is_at p d x.cells) refl e
  where
    by : (keyed (suc p) d xs ≡ Some r → Has r xs × (is_at p d r.cells ≡ true)) → (b : Bool) → is_at p d x.cells ≡ b → cond b (Some x) (keyed (suc p) d xs) ≡ Some r → Has r (x ∷ xs) × (is_at p d r.cells ≡ true)
    by go true is q = let here : x ≡ r = same_Some x r q in (inl here, subst (λ (y : Row). is_at p d y.cells ≡ true) here is)
    by go false is q = let later = go q in (inr later.0, later.1)

pub none_any : (f : Row → Bool) (rs : List Row) (r : Row) → list_any f rs ≡ false → Has r rs → f r ≡ false
none_any f [] r e i = absurd i
none_any f (x ∷ xs) r e (inl p) = subst (λ (y : Row). f y ≡ false) p (or_parts (f x) (list_any f xs) e).0
none_any f (x ∷ xs) r e (inr i) = none_any f xs r (or_parts (f x) (list_any f xs) e).1 i

abbrev pub others_of : ℕ → List Row → List Row
others_of id rs = others (Some id) rs

pub has_others : (id : ℕ) (rs : List Row) (r : Row) → Has r rs → (r.id == id) ≡ false → Has r (others_of id rs)
has_others id [] r i e = absurd i
has_others id (x ∷ xs) r i e = by (λ j. has_others id xs r j e) (x.id == id) refl i
  where
    by : (Has r xs → Has r (others_of id xs)) → (b : Bool) → (x.id == id) ≡ b → Has r (x ∷ xs) → Has r (cond (not b) (x ∷ others_of id xs) (others_of id xs))
    by go true is (inl p) = let no : true ≡ false = sym is ∙ ap (λ (y : Row). y.id == id) p ∙ e in absurd cc
    by go true is (inr j) = go j
    by go false is (inl p) = inl p
    by go false is (inr j) = inr (go j)

-- what no other row is, is none of them still, where one of them became another that isn't it
module _ (P : List Data → Bool) where
  abbrev Of : Row → Bool
  Of r = P r.cells

  pub others_put : (id x : ℕ) (new : List Data) (rs : List Row) → list_any Of (others_of id rs) ≡ false → P new ≡ false → list_any Of (others_of id (map (put_in x new) rs)) ≡ false
  others_put id x new [] e n = refl
  others_put id x new (r ∷ rs) e n = by (λ q. others_put id x new rs q n) (r.id == id) refl e
    where
      put_of : (b : Bool) → P r.cells ≡ false → P (cond b (record { id = r.id; cells = new }) r).cells ≡ false
      put_of true q = n
      put_of false q = q

      by : (list_any Of (others_of id rs) ≡ false → list_any Of (others_of id (map (put_in x new) rs)) ≡ false) → (b : Bool) → (r.id == id) ≡ b → list_any Of (cond (not b) (r ∷ others_of id rs) (others_of id rs)) ≡ false → list_any Of (others_of id (map (put_in x new) (r ∷ rs))) ≡ false
      by go true is q =
          let here : ((put_in x new r).id == id) ≡ true = ap (λ m. m == id) (put_id x new r) ∙ is in
          ap (λ b. list_any Of (cond (not b) (put_in x new r ∷ others_of id (map (put_in x new) rs)) (others_of id (map (put_in x new) rs)))) here ∙ go q
      by go false is q =
          let here : ((put_in x new r).id == id) ≡ false = ap (λ m. m == id) (put_id x new r) ∙ is in
          let parts = or_parts (P r.cells) (list_any Of (others_of id rs)) q in
          ap (λ b. list_any Of (cond (not b) (put_in x new r ∷ others_of id (map (put_in x new) rs)) (others_of id (map (put_in x new) rs)))) here
          ∙ or_from (P (put_in x new r).cells) (list_any Of (others_of id (map (put_in x new) rs))) (put_of (r.id == x) parts.0) (go parts.1)

  pub others_more : (id : ℕ) (y : Row) (rs : List Row) → (y.id == id) ≡ false → list_any Of (others_of id rs) ≡ false → P y.cells ≡ false → list_any Of (others_of id (rs ++ y ∷ [])) ≡ false
  others_more id y [] d e n = ap (λ b. list_any Of (cond (not b) (y ∷ []) [])) d ∙ or_from (P y.cells) false n refl
  others_more id y (r ∷ rs) d e n = by (λ q. others_more id y rs d q n) (r.id == id) e
    where
      by : (list_any Of (others_of id rs) ≡ false → list_any Of (others_of id (rs ++ y ∷ [])) ≡ false) → (b : Bool) → list_any Of (cond (not b) (r ∷ others_of id rs) (others_of id rs)) ≡ false → list_any Of (cond (not b) (r ∷ others_of id (rs ++ y ∷ [])) (others_of id (rs ++ y ∷ []))) ≡ false
      by go true q = go q
      by go false q =
          let parts = or_parts (P r.cells) (list_any Of (others_of id rs)) q in
          or_from (P r.cells) (list_any Of (others_of id (rs ++ y ∷ []))) parts.0 (go parts.1)

-- ---- the row of a key

pub keyed_put_self : (p : ℕ) (d : Data) (rs : List Row) (r : Row) (new : List Data) → keyed (suc p) d rs ≡ Some r → AreApart rs → is_at p d new ≡ true → keyed (suc p) d (map (put_in r.id new) rs) ≡ Some (record { id = r.id; cells = new })
keyed_put_self p d [] r new e a n = absurd cc
keyed_put_self p d (x ∷ xs) r new e a n = by (λ q. keyed_put_self p d xs r new q a.1 n) (is_at p d x.cells) refl e
  where
    by : (keyed (suc p) d xs ≡ Some r → keyed (suc p) d (map (put_in r.id new) xs) ≡ Some (record { id = r.id; cells = new })) → (b : Bool) → is_at p d x.cells ≡ b → cond b (Some x) (keyed (suc p) d xs) ≡ Some r → keyed (suc p) d (map (put_in r.id new) (x ∷ xs)) ≡ Some (record { id = r.id; cells = new })
    by go true is q =
        let here : x ≡ r = same_Some x r q in
        let put : put_in r.id new x ≡ record { id = r.id; cells = new } = is_here r.id new x (ap (λ (y : Row). y.id == r.id) here ∙ itself r.id) ∙ ap (λ (y : Row). record { id = y.id; cells = new }) here in
        ap (λ (y : Row). cond (is_at p d y.cells) (Some y) (keyed (suc p) d (map (put_in r.id new) xs))) put
        ∙ ap (λ b. cond b (Some (record { id = r.id; cells = new })) (keyed (suc p) d (map (put_in r.id new) xs))) n
    by go false is q =
        let there = keyed_has p d xs r q in
        let put : put_in r.id new x ≡ x = not_here r.id new x (turned r.id x.id (number_of x.id xs r a.0 there.0)) in
        ap (λ (y : Row). cond (is_at p d y.cells) (Some y) (keyed (suc p) d (map (put_in r.id new) xs))) put
        ∙ ap (λ b. cond b (Some x) (keyed (suc p) d (map (put_in r.id new) xs))) is ∙ go q

pub keyed_put_other : (p : ℕ) (d : Data) (rs : List Row) (r : Row) (x : ℕ) (new : List Data) → keyed (suc p) d rs ≡ Some r → is_at p d new ≡ false → (r.id == x) ≡ false → keyed (suc p) d (map (put_in x new) rs) ≡ Some r
keyed_put_other p d [] r x new e n h = absurd cc
keyed_put_other p d (y ∷ ys) r x new e n h = by (λ q. keyed_put_other p d ys r x new q n h) (is_at p d y.cells) refl e
  where
    still : (b : Bool) → is_at p d y.cells ≡ false → is_at p d (cond b (record { id = y.id; cells = new }) y).cells ≡ false
    still true is = n
    still false is = is

    by : (keyed (suc p) d ys ≡ Some r → keyed (suc p) d (map (put_in x new) ys) ≡ Some r) → (b : Bool) → is_at p d y.cells ≡ b → cond b (Some y) (keyed (suc p) d ys) ≡ Some r → keyed (suc p) d (map (put_in x new) (y ∷ ys)) ≡ Some r
    by go true is q =
        let here : y ≡ r = same_Some y r q in
        let put : put_in x new y ≡ y = not_here x new y (ap (λ (z : Row). z.id == x) here ∙ h) in
        ap (λ (z : Row). cond (is_at p d z.cells) (Some z) (keyed (suc p) d (map (put_in x new) ys))) put ∙ ap (λ b. cond b (Some y) (keyed (suc p) d (map (put_in x new) ys))) is ∙ q
    by go false is q =
        ap (λ b. cond b (Some (put_in x new y)) (keyed (suc p) d (map (put_in x new) ys))) (still (y.id == x) is) ∙ go q

pub keyed_more_new : (p : ℕ) (d : Data) (rs : List Row) (y : Row) → keyed (suc p) d rs ≡ None → is_at p d y.cells ≡ true → keyed (suc p) d (rs ++ y ∷ []) ≡ Some y
keyed_more_new p d [] y e is = ap (λ b. cond b (Some y) None) is
keyed_more_new p d (x ∷ xs) y e is = by (λ q. keyed_more_new p d xs y q is) (is_at p d x.cells) refl e
  where
    by : (keyed (suc p) d xs ≡ None → keyed (suc p) d (xs ++ y ∷ []) ≡ Some y) → (b : Bool) → is_at p d x.cells ≡ b → cond b (Some x) (keyed (suc p) d xs) ≡ None → keyed (suc p) d (x ∷ (xs ++ y ∷ [])) ≡ Some y
    by go true w q = absurd cc
    by go false w q = ap (λ b. cond b (Some x) (keyed (suc p) d (xs ++ y ∷ []))) w ∙ go q

pub keyed_more_old : (p : ℕ) (d : Data) (rs : List Row) (r y : Row) → keyed (suc p) d rs ≡ Some r → keyed (suc p) d (rs ++ y ∷ []) ≡ Some r
keyed_more_old p d [] r y e = absurd cc
keyed_more_old p d (x ∷ xs) r y e = by (λ q. keyed_more_old p d xs r y q) (is_at p d x.cells) e
  where
    by : (keyed (suc p) d xs ≡ Some r → keyed (suc p) d (xs ++ y ∷ []) ≡ Some r) → (b : Bool) → cond b (Some x) (keyed (suc p) d xs) ≡ Some r → cond b (Some x) (keyed (suc p) d (xs ++ y ∷ [])) ≡ Some r
    by go true q = q
    by go false q = go q

pub put_same : (rs : List Row) (r : Row) → Has r rs → AreApart rs → map (put_in r.id r.cells) rs ≡ rs
put_same [] r i a = absurd i
put_same (x ∷ xs) r (inl p) a =
    let put : put_in r.id r.cells x ≡ x = is_here r.id r.cells x (ap (λ (y : Row). y.id == r.id) p ∙ itself r.id) ∙ ap (λ (y : Row). record { id = x.id; cells = y.cells }) (sym p) in
    λ i. put i ∷ left_alone r.id r.cells xs (subst (λ (y : Row). HasNone y.id xs) p a.0) i
put_same (x ∷ xs) r (inr j) a =
    λ i. not_here r.id r.cells x (turned r.id x.id (number_of x.id xs r a.0 j)) i ∷ put_same xs r j a.1 i

-- the others are the same where a row is changed
pub same_others : (id : ℕ) (new : List Data) (rs : List Row) → others_of id (map (put_in id new) rs) ≡ others_of id rs
same_others id new [] = refl
same_others id new (x ∷ xs) = by (same_others id new xs) (x.id == id) refl
  where
    by : others_of id (map (put_in id new) xs) ≡ others_of id xs → (b : Bool) → (x.id == id) ≡ b → others_of id (map (put_in id new) (x ∷ xs)) ≡ cond (not b) (x ∷ others_of id xs) (others_of id xs)
    by go true is =
        ap (λ c. cond (not c) (put_in id new x ∷ others_of id (map (put_in id new) xs)) (others_of id (map (put_in id new) xs))) (ap (λ m. m == id) (put_id id new x) ∙ is) ∙ go
    by go false is =
        ap (λ c. cond (not c) (put_in id new x ∷ others_of id (map (put_in id new) xs)) (others_of id (map (put_in id new) xs))) (ap (λ m. m == id) (put_id id new x) ∙ is)
        ∙ (λ i. not_here id new x is i ∷ go i)

-- a row of a number above all is no other
pub apart_last : (n : ℕ) (new : List Data) (rs : List Row) → HasNone n rs → others_of n (rs ++ record { id = n; cells = new } ∷ []) ≡ rs
apart_last n new [] h = ap (λ b. cond (not b) (record { id = n; cells = new } ∷ []) []) (itself n)
apart_last n new (r ∷ rs) h =
    ap (λ b. cond (not b) (r ∷ others_of n (rs ++ record { id = n; cells = new } ∷ [])) (others_of n (rs ++ record { id = n; cells = new } ∷ []))) h.0
    ∙ ap (λ xs. r ∷ xs) (apart_last n new rs h.1)

clash : true ≡ false → ⊥
clash q = cc

-- two rows of one number are one
one_row : (rs : List Row) (a b : Row) → a.id ≡ b.id → Has a rs → Has b rs → AreApart rs → a ≡ b
one_row [] a b e i j p = absurd i
one_row (y ∷ ys) a b e (inl f) (inl g) p = sym f ∙ g
one_row (y ∷ ys) a b e (inl f) (inr j) p =
    let no : (b.id == y.id) ≡ false = number_of y.id ys b p.0 j in absurd (clash (sym (eq-eqb b.id y.id (sym e ∙ ap (λ (z : Row). z.id) (sym f))) ∙ no))
one_row (y ∷ ys) a b e (inr i) (inl g) p =
    let no : (a.id == y.id) ≡ false = number_of y.id ys a p.0 i in absurd (clash (sym (eq-eqb a.id y.id (e ∙ ap (λ (z : Row). z.id) (sym g))) ∙ no))
one_row (y ∷ ys) a b e (inr i) (inr j) p = one_row ys a b e i j p.1

pub unlike_rows : (p : ℕ) (d : Data) (rs : List Row) (a b : Row) → a.id ≡ b.id → Has a rs → Has b rs → AreApart rs → is_at p d a.cells ≡ true → is_at p d b.cells ≡ false → ⊥
unlike_rows p d rs a b e i j h is isnt = clash (sym is ∙ ap (λ (z : Row). is_at p d z.cells) (one_row rs a b e i j h) ∙ isnt)
