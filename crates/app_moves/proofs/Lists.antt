-- What is found in lists by a test, or by a name.
use Rattle.std.proofs.Common.{◌≡◌, ℕ, zero, suc, ◌+◌, ◌<◌, ◌++◌, List, [], ◌∷◌, Bool, true, false, cond, length, map, Option, Some, None, bytes_eq, refl, sym, ap, ◌∙◌, subst, arith}
use Rattle.std.specs.Prelude.{slice_get, ◌||◌, ◌&&◌, not, is_none, nat_lt}
use Rattle.std.specs.List.{find, list_any, position, position_or_len}
use Rattle.std.proofs.lemmas.Bool.Decides.{Decides-ltb}
use Rattle.std.proofs.lemmas.List.Folds.{find_at}
use Rattle.std.proofs.lemmas.Option.{slice_get_within}
use Rattle.std.proofs.lemmas.Slice.Eq.{bytes_eq-Decides}

pub same : (xs ys : List ℕ) → bytes_eq xs ys ≡ true → xs ≡ ys
same xs ys e = (bytes_eq-Decides xs ys).0 e

pub is_same : (xs ys : List ℕ) → xs ≡ ys → bytes_eq xs ys ≡ true
is_same xs ys e = (bytes_eq-Decides xs ys).1 e

pub both : (a b : Bool) → (a && b) ≡ true → (a ≡ true) × (b ≡ true)
both true b e = (refl, e)
both false b e = absurd cc

pub as_both : (a b : Bool) → a ≡ true → b ≡ true → (a && b) ≡ true
as_both true b p q = q
as_both false b p q = absurd cc

pub neither : (a b : Bool) → (a || b) ≡ false → (a ≡ false) × (b ≡ false)
neither true b e = absurd cc
neither false b e = (refl, e)

pub is_not : (b : Bool) → not b ≡ true → b ≡ false
is_not true e = absurd cc
is_not false e = refl

pub is_after_all : (b : Bool) → not b ≡ false → b ≡ true
is_after_all true e = refl
is_after_all false e = absurd cc

pub is_nothing : {A : Type 0} (o : Option A) → is_none o ≡ true → o ≡ None
is_nothing None e = refl
is_nothing (Some a) e = absurd cc

-- the first thing that passes a test stands at a place, and passes it
pub record Found {A : Type 0} (p : A → Bool) (xs : List A) (x : A) : Type 0 where
  pub place : ℕ
  pub there : slice_get xs place ≡ Some x
  pub passes : p x ≡ true

pub found : {A : Type 0} (p : A → Bool) (xs : List A) (x : A) → find p xs ≡ Some x → Found p xs x
found p [] x e = absurd cc
found p (y ∷ ys) x e = by (p y) refl e (λ f. found p ys x f)
  where
    by : (b : Bool) → p y ≡ b → cond b (Some y) (find p ys) ≡ Some x → (find p ys ≡ Some x → Found p ys x) → Found p (y ∷ ys) x
    by true q f rest = let is : y ≡ x = cc in record { place = 0; there = f; passes = subst (λ z. p z ≡ true) is q }
    by false q f rest = let r = rest f in record { place = suc r.place; there = r.there; passes = r.passes }

-- where nothing passes a test, nothing that is there does
pub none_passes : {A : Type 0} (p : A → Bool) (xs : List A) (i : ℕ) (x : A) → list_any p xs ≡ false → slice_get xs i ≡ Some x → p x ≡ false
none_passes p [] i x n e = absurd cc
none_passes p (y ∷ ys) zero x n e = let is : y ≡ x = cc in subst (λ z. p z ≡ false) is (neither (p y) (list_any p ys) n).0
none_passes p (y ∷ ys) (suc i) x n e = none_passes p ys i x (neither (p y) (list_any p ys) n).1 e

-- where none is found, the first doesn't pass, and none is found among the others
pub none_found : {A : Type 0} (p : A → Bool) (y : A) (ys : List A) → find p (y ∷ ys) ≡ None → (p y ≡ false) × (find p ys ≡ None)
none_found p y ys e = by (p y) refl e
  where
    by : (b : Bool) → p y ≡ b → cond b (Some y) (find p ys) ≡ None → (p y ≡ false) × (find p ys ≡ None)
    by true q f = absurd cc
    by false q f = (q, f)

-- what stands in front of others stands where it stood
pub in_front : {A : Type 0} (xs ys : List A) (i : ℕ) → i < length xs → slice_get (xs ++ ys) i ≡ slice_get xs i
in_front [] ys i lt = let h : ⊥ = omega (arith, lt) in absurd h
in_front (x ∷ xs) ys zero lt = refl
in_front (x ∷ xs) ys (suc i) lt = in_front xs ys i (omega (arith, lt))

-- what is found by a name stands at the place of its own name
pub record Placed {A : Type 0} (name : A → List ℕ) (xs : List A) (x : A) : Type 0 where
  pub place : ℕ
  pub first : position (λ y. bytes_eq (name y) (name x)) xs ≡ Some place
  pub there : slice_get xs place ≡ Some x

at_first : {A : Type 0} (p : A → Bool) (xs : List A) (x : A) → slice_get xs (position_or_len p xs) ≡ Some x → position p xs ≡ Some (position_or_len p xs)
at_first p xs x e =
    let k = position_or_len p xs in
    let below : k < length xs = slice_get_within xs k x e in
    ap (λ b. cond b (Some k) None) ((Decides-ltb k (length xs)).1 below)

pub placed : {A : Type 0} (name : A → List ℕ) (xs : List A) (n : List ℕ) (x : A) → find (λ y. bytes_eq (name y) n) xs ≡ Some x → Placed name xs x
placed {A} name xs n x e =
    let p : A → Bool = λ y. bytes_eq (name y) (name x) in
    let is : n ≡ name x = sym (same (name x) n (found (λ y. bytes_eq (name y) n) xs x e).passes) in
    let f : find p xs ≡ Some x = subst (λ m. find (λ y. bytes_eq (name y) m) xs ≡ Some x) is e in
    let there : slice_get xs (position_or_len p xs) ≡ Some x = sym (find_at p xs) ∙ f in
    record { place = position_or_len p xs; first = at_first p xs x there; there = there }
