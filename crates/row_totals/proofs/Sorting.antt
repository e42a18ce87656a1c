-- Each list has an order in which it is sorted.
use Rattle.std.proofs.Common.{◌≡◌, ℕ, zero, suc, ◌<◌, List, [], ◌∷◌, length, Bool, true, false, cond, refl, sym, subst, add-one, arith}
use Rattle.std.specs.Prelude.{slice_index_or}
use Rattle.std.specs.List.Sorted.{IsPermutation, IsSortedBy}
use Rattle.std.proofs.lemmas.List.Sorted.{IsPermutation-cons, IsPermutation-refl, IsPermutation-remove, IsPermutation-trans}

module _ {X : Type 0} (lt : X → X → Bool) (one_way : (x y : X) → lt x y ≡ true → lt y x ≡ false) where
  -- an element, before the first that isn't below it
  abbrev put_in : X → List X → List X
  put_in x [] = x ∷ []
  put_in x (y ∷ ys) = cond (lt y x) (y ∷ put_in x ys) (x ∷ y ∷ ys)

  abbrev in_order : List X → List X
  in_order [] = []
  in_order (x ∷ xs) = put_in x (in_order xs)

  abbrev Rises : List X → Type 0
  Rises [] = Unit {0}
  Rises (x ∷ []) = Unit {0}
  Rises (x ∷ y ∷ ys) = (lt y x ≡ false) × Rises (y ∷ ys)

  put_rises : (x : X) (ys : List X) → Rises ys → Rises (put_in x ys)
  put_rises x [] r = tt
  put_rises x (y ∷ []) r = go (lt y x) refl
    where
      go : (b : Bool) → lt y x ≡ b → Rises (cond b (y ∷ x ∷ []) (x ∷ y ∷ []))
      go true e = (one_way y x e, tt)
      go false e = (e, tt)
  put_rises x (y ∷ z ∷ zs) r = go (lt y x) refl (lt z x) (put_rises x (z ∷ zs) r.1)
    where
      go : (b : Bool) → lt y x ≡ b → (d : Bool) → Rises (cond d (z ∷ put_in x zs) (x ∷ z ∷ zs)) → Rises (cond b (y ∷ cond d (z ∷ put_in x zs) (x ∷ z ∷ zs)) (x ∷ y ∷ z ∷ zs))
      go true e true k = (r.0, k)
      go true e false k = (one_way y x e, k)
      go false e d k = (e, r)

  order_rises : (xs : List X) → Rises (in_order xs)
  order_rises [] = tt
  order_rises (x ∷ xs) = put_rises x (in_order xs) (order_rises xs)

  by_one : (xs : List X) → Rises xs → (k : ℕ) (d : X) → suc k < length xs → lt (slice_index_or xs (suc k) d) (slice_index_or xs k d) ≡ false
  by_one [] r k d high = absurd (omega (arith, high))
  by_one (x ∷ []) r k d high = absurd (omega (arith, high))
  by_one (x ∷ y ∷ ys) r zero d high = r.0
  by_one (x ∷ y ∷ ys) r (suc k) d high = by_one (y ∷ ys) r.1 k d (omega (arith, high))

  by_steps : (xs : List X) → Rises xs → IsSortedBy lt xs
  by_steps xs r k d low high = subst (λ n. lt (slice_index_or xs n d) (slice_index_or xs k d) ≡ false) (sym (add-one k)) (by_one xs r k d (omega (arith, high)))

  put_moves : (x : X) (ys : List X) → IsPermutation (x ∷ ys) (put_in x ys)
  put_moves x [] = IsPermutation-refl (x ∷ [])
  put_moves x (y ∷ ys) = go (lt y x) (put_moves x ys)
    where
      go : (b : Bool) → IsPermutation (x ∷ ys) (put_in x ys) → IsPermutation (x ∷ y ∷ ys) (cond b (y ∷ put_in x ys) (x ∷ y ∷ ys))
      go true k = IsPermutation-trans (x ∷ y ∷ ys) (y ∷ x ∷ ys) (y ∷ put_in x ys) (IsPermutation-remove (x ∷ y ∷ ys) 1 y (omega arith) refl) (IsPermutation-cons y (x ∷ ys) (put_in x ys) k)
      go false k = IsPermutation-refl (x ∷ y ∷ ys)

  order_moves : (xs : List X) → IsPermutation xs (in_order xs)
  order_moves [] = IsPermutation-refl []
  order_moves (x ∷ xs) = IsPermutation-trans (x ∷ xs) (x ∷ in_order xs) (put_in x (in_order xs)) (IsPermutation-cons x xs (in_order xs) (order_moves xs)) (put_moves x (in_order xs))

  pub one_order : (xs : List X) → (ys : List X) × IsPermutation xs ys × IsSortedBy lt ys
  one_order xs = (in_order xs, order_moves xs, by_steps (in_order xs) (order_rises xs))
