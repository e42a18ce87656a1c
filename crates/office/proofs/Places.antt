-- What stands at the places of a list.
use Rattle.std.proofs.Common.{◌≡◌, ◌⊎◌, ℕ, zero, suc, ◌<◌, Bool, true, List, [], ◌∷◌, get_or, length, Some, refl, ap, sym, ◌∙◌, arith}
use Rattle.std.proofs.Math.Logic.{⊎_map}
use Rattle.std.specs.Prelude.{slice_get, slice_set}
use Rattle.std.proofs.lemmas.Bool.Decides.{eqb_tells}
use Rattle.std.specs.List.{position}
use Rattle.std.proofs.lemmas.List.{set-get_or}
use Rattle.std.proofs.lemmas.List.Quantifiers.{position-Some}
use Rattle.std.proofs.lemmas.Option.{get_or_from_slice_get, slice_get-get_or, slice_get_within}

-- a place is another one, or it isn't
pub cases_of : (k n : ℕ) → (k ≡ n) ⊎ (k ≡ n → ⊥)
cases_of k n = ⊎_map (λ is. is.1) (λ is. is.1) (eqb_tells k n)

-- there is something at each
pub some_at : {T : Type 0} (xs : List T) (k : ℕ) → k < length xs → (x : T) × (slice_get xs k ≡ Some x)
some_at [] k within = absurd (omega (arith, within))
some_at (x ∷ xs) zero within = (x, refl)
some_at (x ∷ xs) (suc k) within = some_at xs k (omega (arith, within))

-- which is one thing
pub one_at : {T : Type 0} (xs : List T) (k : ℕ) (x y : T) → slice_get xs k ≡ Some x → slice_get xs k ≡ Some y → x ≡ y
one_at xs k x y at there = sym (get_or_from_slice_get xs k x x at) ∙ get_or_from_slice_get xs k y x there

pub item_at : {T : Type 0} (xs : List T) (k : ℕ) (x : T) → k < length xs → x ≡ get_or xs k x → slice_get xs k ≡ Some x
item_at xs k x within is = slice_get-get_or xs k x within ∙ ap Some (sym is)

-- so there is in a list that is as long
pub there_too : {T : Type 0} (xs ys : List T) → length ys ≡ length xs → (k : ℕ) (x : T) → slice_get xs k ≡ Some x → (y : T) × (slice_get ys k ≡ Some y)
there_too xs ys long k x at = let within = slice_get_within xs k x at in some_at ys k (omega (arith, long, within))

-- ---- where a test first passes

pub position_within : {T : Type 0} (test : T → Bool) (xs : List T) (k : ℕ) → position test xs ≡ Some k → k < length xs
position_within test [] k is = absurd cc
position_within test (x ∷ xs) k is = (position-Some test (x ∷ xs) k x is).0

pub position_passes : {T : Type 0} (test : T → Bool) (xs : List T) (k : ℕ) (x : T) → position test xs ≡ Some k → slice_get xs k ≡ Some x → test x ≡ true
position_passes test xs k x is at = ap test (sym (get_or_from_slice_get xs k x x at)) ∙ (position-Some test xs k x is).1

-- ---- where one was put in the place of another

pub set_here : {T : Type 0} (xs : List T) (k : ℕ) (x y : T) → slice_get xs k ≡ Some x → slice_get (slice_set xs k y) k ≡ Some y
set_here [] k x y at = absurd cc
set_here (z ∷ xs) zero x y at = refl
set_here (z ∷ xs) (suc k) x y at = set_here xs k x y at

pub set_is : {T : Type 0} (xs : List T) (k : ℕ) (x y : T) → slice_get (slice_set xs k x) k ≡ Some y → y ≡ x
set_is [] k x y at = absurd cc
set_is (z ∷ xs) zero x y at = cc
set_is (z ∷ xs) (suc k) x y at = set_is xs k x y at

-- the others stay
others_stay : {T : Type 0} (xs : List T) (k n : ℕ) (y : T) → (k ≡ n → ⊥) → slice_get (slice_set xs n y) k ≡ slice_get xs k
others_stay [] k n y far = refl
others_stay (z ∷ xs) zero zero y far = absurd (far refl)
others_stay (z ∷ xs) zero (suc n) y far = refl
others_stay (z ∷ xs) (suc k) zero y far = refl
others_stay (z ∷ xs) (suc k) (suc n) y far = others_stay xs k n y (λ e. far (ap suc e))

pub set_there : {T : Type 0} (xs : List T) (k n : ℕ) (x y : T) → (k ≡ n → ⊥) → slice_get xs k ≡ Some x → slice_get (slice_set xs n y) k ≡ Some x
set_there xs k n x y far at = others_stay xs k n y far ∙ at

pub set_back : {T : Type 0} (xs : List T) (k n : ℕ) (x y : T) → (k ≡ n → ⊥) → slice_get (slice_set xs n y) k ≡ Some x → slice_get xs k ≡ Some x
set_back xs k n x y far at = sym (others_stay xs k n y far) ∙ at

-- and all stays where it was there already
pub set_same : {T : Type 0} (xs : List T) (k : ℕ) (x : T) → slice_get xs k ≡ Some x → slice_set xs k x ≡ xs
set_same xs k x at = ap (slice_set xs k) (sym (get_or_from_slice_get xs k x x at)) ∙ set-get_or xs k x
