-- How names stay rising, for callers that push.
use Rattle.std.proofs.Common.{◌≡◌, ℕ, zero, suc, ◌<◌, List, [], ◌∷◌, ◌++◌, length, get_or, take, map, filter, Bool, true, false, refl, ap, subst, arith, if◌then◌else◌}
use Rattle.fx_types.specs.Rising.{IsBelow, IsNameBelowAll, IsAboveAll, AreNamesRising}

-- the names of items
abbrev pub names_of : {A : Type 0} → List (List ℕ × A) → List (List ℕ)
names_of = map (λ f. f.0)

module _ {A : Type 0} where
  below_push : (n m : List ℕ) (a : A) (fs : List (List ℕ × A)) → IsNameBelowAll n fs → IsBelow n m → IsNameBelowAll n (fs ++ (m, a) ∷ [])
  below_push n m a [] h k = (k, tt)
  below_push n m a (f ∷ fs) h k = (h.0, below_push n m a fs h.1 k)

  -- one more name, above all
  pub rising_push : (fs : List (List ℕ × A)) (m : List ℕ) (a : A) → AreNamesRising fs → IsAboveAll m fs → AreNamesRising (fs ++ (m, a) ∷ [])
  rising_push [] m a h k = (tt, tt)
  rising_push (f ∷ fs) m a h k = (below_push f.0 m a fs h.0 k.0, rising_push fs m a h.1 k.1)

  below_at : (n : List ℕ) (fs : List (List ℕ × A)) (i : ℕ) (x : List ℕ × A) → i < length fs → x ≡ get_or fs i x → IsNameBelowAll n fs → IsBelow n x.0
  below_at n [] i x h e b = absurd (omega arith)
  below_at n (f ∷ fs) zero x h e b = rw e b.0
  below_at n (f ∷ fs) (suc i) x h e b = below_at n fs i x (omega arith) e b.1

  -- a name is above those before it
  pub above_before : (fs : List (List ℕ × A)) (i : ℕ) (x : List ℕ × A) → i < length fs → x ≡ get_or fs i x → AreNamesRising fs → IsAboveAll x.0 (take i fs)
  above_before [] i x h e r = absurd (omega arith)
  above_before (f ∷ fs) zero x h e r = tt
  above_before (f ∷ fs) (suc i) x h e r = (below_at f.0 fs i x (omega arith) e r.0, above_before fs i x (omega arith) e r.1)

  below_take : (n : List ℕ) (i : ℕ) (fs : List (List ℕ × A)) → IsNameBelowAll n fs → IsNameBelowAll n (take i fs)
  below_take n zero fs h = tt
  below_take n (suc i) [] h = tt
  below_take n (suc i) (f ∷ fs) h = (h.0, below_take n i fs h.1)

  pub rising_take : (i : ℕ) (fs : List (List ℕ × A)) → AreNamesRising fs → AreNamesRising (take i fs)
  rising_take zero fs h = tt
  rising_take (suc i) [] h = tt
  rising_take (suc i) (f ∷ fs) h = (below_take f.0 i fs h.0, rising_take i fs h.1)

  keep : (P : List (List ℕ × A) → Type 0) (f : List ℕ × A) (fs : List (List ℕ × A)) (b : Bool) → P fs → P (f ∷ fs) → P (if b then f ∷ fs else fs)
  keep P f fs true h k = k
  keep P f fs false h k = h

  -- some of rising names
  below_filter : (p : List ℕ × A → Bool) (n : List ℕ) (fs : List (List ℕ × A)) → IsNameBelowAll n fs → IsNameBelowAll n (filter p fs)
  below_filter p n [] h = tt
  below_filter p n (f ∷ fs) h = keep (IsNameBelowAll n) f (filter p fs) (p f) (below_filter p n fs h.1) (h.0, below_filter p n fs h.1)

  pub above_filter : (p : List ℕ × A → Bool) (n : List ℕ) (fs : List (List ℕ × A)) → IsAboveAll n fs → IsAboveAll n (filter p fs)
  above_filter p n [] h = tt
  above_filter p n (f ∷ fs) h = keep (IsAboveAll n) f (filter p fs) (p f) (above_filter p n fs h.1) (h.0, above_filter p n fs h.1)

  pub rising_filter : (p : List ℕ × A → Bool) (fs : List (List ℕ × A)) → AreNamesRising fs → AreNamesRising (filter p fs)
  rising_filter p [] h = tt
  rising_filter p (f ∷ fs) h = keep AreNamesRising f (filter p fs) (p f) (rising_filter p fs h.1) (below_filter p f.0 fs h.0, rising_filter p fs h.1)

  -- an item may be pushed on some of those before it
  pub rising_kept_of : (p : List ℕ × A → Bool) (fs : List (List ℕ × A)) (i : ℕ) (x : List ℕ × A) → i < length fs → x ≡ get_or fs i x → AreNamesRising fs → AreNamesRising (filter p (take i fs) ++ (x.0, x.1) ∷ [])
  rising_kept_of p fs i x h e r =
      rising_push (filter p (take i fs)) x.0 x.1
      (rising_filter p (take i fs) (rising_take i fs r))
      (above_filter p x.0 (take i fs) (above_before fs i x h e r))

module _ {A B : Type 0} where
  below_names : (n : List ℕ) (fs : List (List ℕ × A)) (gs : List (List ℕ × B)) → names_of fs ≡ names_of gs → IsNameBelowAll n fs → IsNameBelowAll n gs
  below_names n [] [] e h = tt
  below_names n [] (g ∷ gs) e h = cc
  below_names n (f ∷ fs) [] e h = cc
  below_names n (f ∷ fs) (g ∷ gs) e h =
      let first : f.0 ≡ g.0 = cc in
      let rest : names_of fs ≡ names_of gs = cc in
      (subst (IsBelow n) first h.0, below_names n fs gs rest h.1)

  -- what has the names of rising items, rises
  pub rising_names : (fs : List (List ℕ × A)) (gs : List (List ℕ × B)) → names_of fs ≡ names_of gs → AreNamesRising fs → AreNamesRising gs
  rising_names [] [] e h = tt
  rising_names [] (g ∷ gs) e h = cc
  rising_names (f ∷ fs) [] e h = cc
  rising_names (f ∷ fs) (g ∷ gs) e h =
      let first : f.0 ≡ g.0 = cc in
      let rest : names_of fs ≡ names_of gs = cc in
      let P : List ℕ → Type 0 = λ n. IsNameBelowAll n gs in
      (subst P first (below_names f.0 fs gs rest h.0), rising_names fs gs rest h.1)

-- items seen through their values
module _ {A B : Type 0} (seen : A → B) where
  abbrev pub seen_items : List (List ℕ × A) → List (List ℕ × B)
  seen_items = map (λ f. (f.0, seen f.1))

  seen_take : (i : ℕ) (fs : List (List ℕ × A)) → seen_items (take i fs) ≡ take i (seen_items fs)
  seen_take zero fs = refl
  seen_take (suc i) [] = refl
  seen_take (suc i) (f ∷ fs) = ap (λ gs. (f.0, seen f.1) ∷ gs) (seen_take i fs)

  seen_at : (fs : List (List ℕ × A)) (i : ℕ) (x : List ℕ × A) → i < length fs → x ≡ get_or fs i x → (x.0, seen x.1) ≡ get_or (seen_items fs) i (x.0, seen x.1)
  seen_at [] i x h e = absurd (omega arith)
  seen_at (f ∷ fs) zero x h e = ap (λ g. (g.0, seen g.1)) e
  seen_at (f ∷ fs) (suc i) x h e = seen_at fs i x (omega arith) e

  pub seen_length : (fs : List (List ℕ × A)) → length (seen_items fs) ≡ length fs
  seen_length [] = refl
  seen_length (f ∷ fs) = ap suc (seen_length fs)

  kept : (p : List ℕ × B → Bool) (fs : List (List ℕ × A)) (i : ℕ) (x : List ℕ × A) → i < length fs → x ≡ get_or fs i x → AreNamesRising (seen_items fs) → AreNamesRising (filter p (seen_items (take i fs)) ++ (x.0, seen x.1) ∷ [])
  kept p fs i x h e r = rw (seen_take i fs) (rising_kept_of p (seen_items fs) i (x.0, seen x.1) (omega (arith, seen_length fs)) (seen_at fs i x h e) r)
