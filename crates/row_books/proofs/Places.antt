-- What stands at the places of lists, after one of them is written.
use Rattle.std.proofs.Common.{◌≡◌, ℕ, zero, suc, ◌+◌, ◌<◌, ◌≤◌, ◌==◌, Bool, true, false, cond, List, [], ◌∷◌, get_or, length, map, Option, Some, None, refl, sym, ap, ap₂, subst, ◌∙◌, arith}
use Rattle.std.specs.Prelude.{Result, Ok, Err, IsSomeAnd, OnErr, OnOk, nat_lt, option_map, set, slice_get}
use Rattle.std.specs.Bool.{Decides}
use Rattle.std.proofs.lemmas.Bool.Decides.{Decides-eqb, nat_tests}
use Rattle.std.proofs.Math.Seq.{map-set_same}
use Rattle.std.proofs.lemmas.Option.{get_or_from_slice_get, slice_get-get_or, slice_get-map, slice_get_past}
use Rattle.row_books.specs.Numbers.{ChangesAt}

-- ---- how a call ends
pub on_ok : {A E P Q : Type 0} (r : Result A E) → (P → Q) → OnOk r P → OnOk r Q
on_ok (Ok x) f h = f h
on_ok (Err e) f h = tt

pub on_err : {A E P : Type 0} (r : Result A E) → P → OnErr r P
on_err (Ok x) p = tt
on_err (Err e) p = p

-- ---- one place of a list
module _ {X : Type 0} where
  pub got_same : (xs : List X) (i : ℕ) (x y : X) → slice_get xs i ≡ Some y → slice_get (set xs i x) i ≡ Some x
  got_same [] i x y e = absurd cc
  got_same (z ∷ xs) zero x y e = refl
  got_same (z ∷ xs) (suc i) x y e = got_same xs i x y e

  pub got_other : (xs : List X) (i k : ℕ) (x : X) → (k ≡ i → ⊥) → slice_get (set xs i x) k ≡ slice_get xs k
  got_other [] i k x n = refl
  got_other (z ∷ xs) zero zero x n = absurd (n refl)
  got_other (z ∷ xs) zero (suc k) x n = refl
  got_other (z ∷ xs) (suc i) zero x n = refl
  got_other (z ∷ xs) (suc i) (suc k) x n = got_other xs i k x (λ e. n (ap suc e))

  -- a change that leaves what a function gives
  pub same_by : {Y : Type 0} (f : X → Y) (place : ℕ) (P : X → X → Type 0) (old new : List X) → ChangesAt place P old new → ((b c : X) → P b c → f c ≡ f b) → map f new ≡ map f old
  same_by {Y} f place P old new h same =
      ap (map f) h.stands
      ∙ map-set_same f old place h.after h.before (same h.before h.after h.goes ∙ ap f (sym (get_or_from_slice_get old place h.before h.before h.is_there)))

-- one place is written
pub changes_at : {X : Type 0} (P : X → X → Type 0) (xs : List X) (i : ℕ) (item x : X) → i < length xs → P (get_or xs i item) x → ChangesAt i P xs (set xs i x)
changes_at P xs i item x l g = record { before = get_or xs i item; after = x; is_there = slice_get-get_or xs i item l; goes = g; stands = refl }

-- where something stands is within a list
pub within_some : {X : Type 0} (P : X → Type 0) (xs : List X) (i : ℕ) → IsSomeAnd (slice_get xs i) P → i < length xs
within_some P [] i h = absurd h
within_some P (x ∷ xs) zero h = omega arith
within_some P (x ∷ xs) (suc i) h = let l = within_some P xs i h in omega (arith, l)

-- within a list something stands
pub there_at : {X : Type 0} (zs : List X) (k : ℕ) → k < length zs → (z : X) × (slice_get zs k ≡ Some z)
there_at [] k l = absurd (omega (arith, l))
there_at (z ∷ zs) zero l = (z, refl)
there_at (z ∷ zs) (suc k) l = there_at zs k (omega (arith, l))

-- two lists with the same at each place are one
pub one_by_places : {Y : Type 0} (xs ys : List Y) → ((k : ℕ) → slice_get xs k ≡ slice_get ys k) → xs ≡ ys
one_by_places [] [] h = refl
one_by_places [] (y ∷ ys) h = absurd (let e = h 0 in cc)
one_by_places (x ∷ xs) [] h = absurd (let e = h 0 in cc)
one_by_places {Y} (x ∷ xs) (y ∷ ys) h = let e : x ≡ y = some_is x y (h 0) in ap₂ (λ z zs. z ∷ zs) e (one_by_places xs ys (λ k. h (suc k)))
  where
    some_is : (x y : Y) → Some x ≡ Some y → x ≡ y
    some_is x y e = cc

-- ---- a loop over the places of a list: up to one of them all have become what they are to be
module _ {X Y : Type 0} (f : X → Y) (goal : ℕ → Option Y) (start : List X) where
  abbrev pub AreUpTo : ℕ → List X → Type 0
  AreUpTo i xs = (k : ℕ) → slice_get (map f xs) k ≡ cond (nat_lt k i) (goal k) (slice_get (map f start) k)

  pub upto_none : AreUpTo 0 start
  upto_none k = ap (λ b. cond b (goal k) (slice_get (map f start) k)) (sym (none k))
    where
      none : (k : ℕ) → nat_lt k 0 ≡ false
      none k = grind (arith, nat_tests)

  there_yet : (i : ℕ) (xs : List X) → i < length start → AreUpTo i xs → (y : X) × (slice_get xs i ≡ Some y)
  there_yet i xs l h = found (slice_get xs i) (slice_get start i) (there_at start i l) (sym (slice_get-map f xs i) ∙ h i ∙ ap (λ b. cond b (goal i) (slice_get (map f start) i)) (not_below i) ∙ slice_get-map f start i)
    where
      not_below : (i : ℕ) → nat_lt i i ≡ false
      not_below i = grind (arith, nat_tests)

      found : (o p : Option X) → (z : X) × (p ≡ Some z) → option_map f o ≡ option_map f p → (y : X) × (o ≡ Some y)
      found (Some y) p z e = (y, refl)
      found None p z e = absurd (let g : None ≡ Some (f z.0) = e ∙ ap (option_map f) z.1 in cc)

  pub upto_step : (i : ℕ) (xs : List X) (x y : X) → slice_get xs i ≡ Some y → AreUpTo i xs → goal i ≡ Some (f x) → AreUpTo (i + 1) (set xs i x)
  upto_step i xs x y there h is k = slice_get-map f (set xs i x) k ∙ go (k == i) (Decides-eqb k i)
    where
      go : (b : Bool) → Decides b (k ≡ i) → option_map f (slice_get (set xs i x) k) ≡ cond (nat_lt k (i + 1)) (goal k) (slice_get (map f start) k)
      go true d =
          let e : k ≡ i = d.0 refl in
          subst (λ n. option_map f (slice_get (set xs i x) n) ≡ cond (nat_lt n (i + 1)) (goal n) (slice_get (map f start) n)) (sym e)
          (ap (option_map f) (got_same xs i x y there) ∙ sym is ∙ ap (λ b. cond b (goal i) (slice_get (map f start) i)) (sym (next i)))
        where
          next : (i : ℕ) → nat_lt i (i + 1) ≡ true
          next i = grind (arith, nat_tests)
      go false d =
          let n : k ≡ i → ⊥ = λ e. let t = d.1 e in cc in
          ap (option_map f) (got_other xs i k x n) ∙ sym (slice_get-map f xs k) ∙ h k ∙ ap (λ b. cond b (goal k) (slice_get (map f start) k)) (same k i n)
        where
          same : (k i : ℕ) → (k ≡ i → ⊥) → nat_lt k i ≡ nat_lt k (i + 1)
          same k i n = grind (arith, nat_tests, n)

  pub upto_more : (i : ℕ) (xs : List X) (x : X) → i < length start → AreUpTo i xs → goal i ≡ Some (f x) → AreUpTo (i + 1) (set xs i x)
  upto_more i xs x l h is = let y = there_yet i xs l h in upto_step i xs x y.0 y.1 h is

  pub upto_all : (n : ℕ) (xs : List X) → length start ≤ n → ((k : ℕ) → slice_get start k ≡ None → goal k ≡ None) → AreUpTo n xs → (k : ℕ) → slice_get (map f xs) k ≡ goal k
  upto_all n xs long none h k = h k ∙ go (nat_lt k n) refl
    where
      go : (b : Bool) → nat_lt k n ≡ b → cond b (goal k) (slice_get (map f start) k) ≡ goal k
      go true e = refl
      go false e =
          let past : slice_get start k ≡ None = slice_get_past start k (over k n (length start) e long) in
          slice_get-map f start k ∙ ap (option_map f) past ∙ sym (none k past)
        where
          over : (k n m : ℕ) → nat_lt k n ≡ false → m ≤ n → m ≤ k
          over k n m e l = grind (arith, nat_tests, e, l)

-- ---- a loop that makes one function of the elements what another is, which stays
module _ {X Y : Type 0} (f g : X → Y) (start : List X) where
  abbrev pub AreMoved : ℕ → List X → Type 0
  AreMoved i xs = AreUpTo f (λ k. slice_get (map g start) k) start i xs × (map g xs ≡ map g start)

  pub moved_more : (i : ℕ) (xs : List X) (x item : X) → i < length start → AreMoved i xs → item ≡ get_or xs i item → f x ≡ g item → g x ≡ g item → AreMoved (i + 1) (set xs i x)
  moved_more i xs x item l h is e k =
      let y = there_yet f (λ n. slice_get (map g start) n) start i xs l h.0 in
      let same : item ≡ y.0 = is ∙ get_or_from_slice_get xs i y.0 item y.1 in
      let goal : slice_get (map g start) i ≡ Some (f x) = ap (λ zs. slice_get zs i) (sym h.1) ∙ slice_get-map g xs i ∙ ap (option_map g) y.1 ∙ ap (λ z. Some (g z)) (sym same) ∙ ap (λ z. Some z) (sym e) in
      (upto_more f (λ n. slice_get (map g start) n) start i xs x l h.0 goal, map-set_same g xs i x item (k ∙ ap g is) ∙ h.1)

  pub moved_all : (n : ℕ) (xs : List X) → length start ≤ n → AreMoved n xs → map f xs ≡ map g start
  moved_all n xs long h =
      one_by_places (map f xs) (map g start) (upto_all f (λ k. slice_get (map g start) k) start n xs long (λ k past. slice_get-map g start k ∙ ap (option_map g) past) h.0)
