-- Rising lists of sources in one.
use Rattle.std.proofs.Common.{inl, inr, ◌≡◌, ◌⊎◌, ◌↔◌, List, [], ◌∷◌, ◌++◌, Bool, true, false, cond, filter, not, length, append_assoc, refl, ap, sym, subst, ◌∙◌, arith}
use Rattle.std.specs.Ordering.{match_ordering}
use Rattle.std.specs.declared.cmp.Ordering.{Ordering}
use Rattle.std.specs.declared.cmp.Ordering.TheVariants.{Less, Equal, Greater}
use Rattle.fx_core.specs.Reads.{AreSourcesRising, IsAmong, IsSourceBelowAll, source_order}
use Rattle.fx_core.specs.declared.sources.Source.{Source}
use Rattle.fx_core.proofs.Ordered.{below_more, order_flips, order_tells}
use Rattle.app_cells.specs.Reach.{is_cell}

-- one list with x at its head, in one with another; `on` is the rest of it with a list
abbrev pub step : Source → List Source → (List Source → List Source) → List Source → List Source
step x xs on [] = x ∷ xs
step x xs on (y ∷ ys) = match_ordering (source_order x y) (x ∷ on (y ∷ ys)) (on (y ∷ ys)) (y ∷ step x xs on ys)

abbrev pub merge : List Source → List Source → List Source
merge [] ys = ys
merge (x ∷ xs) ys = step x xs (merge xs) ys

-- where one has come to its end
pub merge_none : (xs : List Source) → merge xs [] ≡ xs
merge_none [] = refl
merge_none (x ∷ xs) = refl

-- one source more
least : (x y : Source) (xs ys : List Source) (o : Ordering) → source_order x y ≡ o → merge (x ∷ xs) (y ∷ ys) ≡ match_ordering o (x ∷ merge xs (y ∷ ys)) (merge xs (y ∷ ys)) (y ∷ merge (x ∷ xs) ys)
least x y xs ys o e = ap (λ q. match_ordering q (x ∷ merge xs (y ∷ ys)) (merge xs (y ∷ ys)) (y ∷ merge (x ∷ xs) ys)) e

-- what is put in front of what is left
in_front : (all new rest : List Source) (x : Source) → new ≡ all ++ x ∷ [] → new ++ rest ≡ all ++ x ∷ rest
in_front all new rest x e = ap (λ zs. zs ++ rest) e ∙ append_assoc all (x ∷ []) rest

module _ (all new left right ones others whole : List Source) (x y : Source) (l : left ≡ x ∷ ones) (r : right ≡ y ∷ others) (h : all ++ merge left right ≡ whole) where
  heads : (o : Ordering) → source_order x y ≡ o → all ++ match_ordering o (x ∷ merge ones (y ∷ others)) (merge ones (y ∷ others)) (y ∷ merge (x ∷ ones) others) ≡ whole
  heads o e = sym (ap (λ zs. all ++ zs) ((λ i. merge (l i) (r i)) ∙ least x y ones others o e)) ∙ h

  pub merge_less : source_order x y ≡ Less → new ≡ all ++ x ∷ [] → new ++ merge ones right ≡ whole
  merge_less e n = in_front all new (merge ones right) x n ∙ ap (λ zs. all ++ x ∷ merge ones zs) r ∙ heads Less e

  pub merge_equal : source_order x y ≡ Equal → all ++ merge ones right ≡ whole
  merge_equal e = ap (λ zs. all ++ merge ones zs) r ∙ heads Equal e

  pub merge_greater : source_order x y ≡ Greater → new ≡ all ++ y ∷ [] → new ++ merge left others ≡ whole
  merge_greater e n = in_front all new (merge left others) y n ∙ ap (λ zs. all ++ y ∷ merge zs others) l ∙ heads Greater e

-- nothing is left of one
pub merge_left : (all new left right whole : List Source) → length right ≡ 0 → all ++ merge left right ≡ whole → new ≡ all ++ left → new ≡ whole
merge_left all new left [] whole e h n = n ∙ ap (λ zs. all ++ zs) (sym (merge_none left)) ∙ h
merge_left all new left (y ∷ right) whole e h n = absurd (omega (arith, e))

pub merge_right : (all new left right whole : List Source) → length left ≡ 0 → all ++ merge left right ≡ whole → new ≡ all ++ right → new ≡ whole
merge_right all new [] right whole e h n = n ∙ h
merge_right all new (x ∷ left) right whole e h n = absurd (omega (arith, e))

-- ---- it rises
below_step : (t x : Source) (xs : List Source) (on : List Source → List Source) (ys : List Source) → IsSourceBelowAll t (x ∷ xs) → IsSourceBelowAll t ys → ((zs : List Source) → IsSourceBelowAll t zs → IsSourceBelowAll t (on zs)) →
    IsSourceBelowAll t (step x xs on ys)
below_step t x xs on [] a b h = a
below_step t x xs on (y ∷ ys) a b h = by (source_order x y) (below_step t x xs on ys a b.1 h)
  where
    by : (o : Ordering) → IsSourceBelowAll t (step x xs on ys) → IsSourceBelowAll t (match_ordering o (x ∷ on (y ∷ ys)) (on (y ∷ ys)) (y ∷ step x xs on ys))
    by Less k = (a.0, h (y ∷ ys) b)
    by Equal k = h (y ∷ ys) b
    by Greater k = (b.0, k)

below_merge : (t : Source) (xs ys : List Source) → IsSourceBelowAll t xs → IsSourceBelowAll t ys → IsSourceBelowAll t (merge xs ys)
below_merge t [] ys a b = b
below_merge t (x ∷ xs) ys a b = below_step t x xs (merge xs) ys a b (λ zs c. below_merge t xs zs a.1 c)

rising_step : (x : Source) (xs : List Source) (on : List Source → List Source) (ys : List Source) → AreSourcesRising (x ∷ xs) → AreSourcesRising ys → ((zs : List Source) → AreSourcesRising zs → AreSourcesRising (on zs)) →
    ((t : Source) (zs : List Source) → IsSourceBelowAll t xs → IsSourceBelowAll t zs → IsSourceBelowAll t (on zs)) → AreSourcesRising (step x xs on ys)
rising_step x xs on [] a b h k = a
rising_step x xs on (y ∷ ys) a b h k = by (source_order x y) refl (rising_step x xs on ys a b.1 h k)
  where
    by : (o : Ordering) → source_order x y ≡ o → AreSourcesRising (step x xs on ys) → AreSourcesRising (match_ordering o (x ∷ on (y ∷ ys)) (on (y ∷ ys)) (y ∷ step x xs on ys))
    by Less e r = (k x (y ∷ ys) a.0 (e, below_more x y ys e b.0), h (y ∷ ys) b)
    by Equal e r = h (y ∷ ys) b
    by Greater e r =
        let flip : source_order y x ≡ Less = order_flips x y e in
        let all : IsSourceBelowAll y xs = below_more y x xs flip a.0 in
        (below_step y x xs on ys (flip, all) b.0 (λ zs c. k y zs all c), r)

pub rising_merge : (xs ys : List Source) → AreSourcesRising xs → AreSourcesRising ys → AreSourcesRising (merge xs ys)
rising_merge [] ys a b = b
rising_merge (x ∷ xs) ys a b = rising_step x xs (merge xs) ys a b (λ zs c. rising_merge xs zs a.1 c) (λ t zs c d. below_merge t xs zs c d)

-- ---- it has the sources of both
among_step : (s x : Source) (xs : List Source) (on : List Source → List Source) (ys : List Source) → ((zs : List Source) → IsAmong s (on zs) → IsAmong s xs ⊎ IsAmong s zs) → IsAmong s (step x xs on ys) →
    IsAmong s (x ∷ xs) ⊎ IsAmong s ys
among_step s x xs on [] h m = inl m
among_step s x xs on (y ∷ ys) h m = by (source_order x y) (among_step s x xs on ys h) m
  where
    by : (o : Ordering) → (IsAmong s (step x xs on ys) → IsAmong s (x ∷ xs) ⊎ IsAmong s ys) → IsAmong s (match_ordering o (x ∷ on (y ∷ ys)) (on (y ∷ ys)) (y ∷ step x xs on ys)) → IsAmong s (x ∷ xs) ⊎ IsAmong s (y ∷ ys)
    by Less r (inl e) = inl (inl e)
    by Less r (inr m) = elim (h (y ∷ ys) m) [ inl a ↦ inl (inr a) | inr b ↦ inr b ]
    by Equal r m = elim (h (y ∷ ys) m) [ inl a ↦ inl (inr a) | inr b ↦ inr b ]
    by Greater r (inl e) = inr (inl e)
    by Greater r (inr m) = elim (r m) [ inl a ↦ inl a | inr b ↦ inr (inr b) ]

step_among : (s x : Source) (xs : List Source) (on : List Source → List Source) (ys : List Source) → ((zs : List Source) → IsAmong s xs ⊎ IsAmong s zs → IsAmong s (on zs)) → IsAmong s (x ∷ xs) ⊎ IsAmong s ys →
    IsAmong s (step x xs on ys)
step_among s x xs on [] h (inl m) = m
step_among s x xs on [] h (inr m) = absurd m
step_among s x xs on (y ∷ ys) h m = by (source_order x y) refl (step_among s x xs on ys h) m
  where
    by : (o : Ordering) → source_order x y ≡ o → (IsAmong s (x ∷ xs) ⊎ IsAmong s ys → IsAmong s (step x xs on ys)) → IsAmong s (x ∷ xs) ⊎ IsAmong s (y ∷ ys) →
        IsAmong s (match_ordering o (x ∷ on (y ∷ ys)) (on (y ∷ ys)) (y ∷ step x xs on ys))
    by Less e r (inl (inl a)) = inl a
    by Less e r (inl (inr a)) = inr (h (y ∷ ys) (inl a))
    by Less e r (inr b) = inr (h (y ∷ ys) (inr b))
    by Equal e r (inl (inl a)) = h (y ∷ ys) (inr (inl (sym (order_tells x y e) ∙ a)))
    by Equal e r (inl (inr a)) = h (y ∷ ys) (inl a)
    by Equal e r (inr b) = h (y ∷ ys) (inr b)
    by Greater e r (inl a) = inr (r (inl a))
    by Greater e r (inr (inl b)) = inl b
    by Greater e r (inr (inr b)) = inr (r (inr b))

among_merge : (s : Source) (xs ys : List Source) → IsAmong s (merge xs ys) → IsAmong s xs ⊎ IsAmong s ys
among_merge s [] ys m = inr m
among_merge s (x ∷ xs) ys m = among_step s x xs (merge xs) ys (λ zs n. among_merge s xs zs n) m

merge_among : (s : Source) (xs ys : List Source) → IsAmong s xs ⊎ IsAmong s ys → IsAmong s (merge xs ys)
merge_among s [] ys (inl m) = absurd m
merge_among s [] ys (inr m) = m
merge_among s (x ∷ xs) ys m = step_among s x xs (merge xs) ys (λ zs n. merge_among s xs zs n) m

pub merge_both : (s : Source) (xs ys : List Source) → IsAmong s (merge xs ys) ↔ (IsAmong s xs ⊎ IsAmong s ys)
merge_both s xs ys = (among_merge s xs ys, merge_among s xs ys)

-- ---- without cells
abbrev pub others : List Source → List Source
others = filter (λ s. not (is_cell s))

below_others : (t : Source) (xs : List Source) → IsSourceBelowAll t xs → IsSourceBelowAll t (others xs)
below_others t [] h = tt
below_others t (x ∷ xs) h = by (not (is_cell x)) (below_others t xs h.1)
  where
    by : (b : Bool) → IsSourceBelowAll t (others xs) → IsSourceBelowAll t (cond b (x ∷ others xs) (others xs))
    by true k = (h.0, k)
    by false k = k

pub rising_others : (xs : List Source) → AreSourcesRising xs → AreSourcesRising (others xs)
rising_others [] h = tt
rising_others (x ∷ xs) h = by (not (is_cell x)) (rising_others xs h.1)
  where
    by : (b : Bool) → AreSourcesRising (others xs) → AreSourcesRising (cond b (x ∷ others xs) (others xs))
    by true k = (below_others x xs h.0, k)
    by false k = k

among_others : (s : Source) (xs : List Source) → IsAmong s (others xs) → (is_cell s ≡ false) × IsAmong s xs
among_others s [] m = absurd m
among_others s (x ∷ xs) m = by (is_cell x) refl (among_others s xs) m
  where
    by : (b : Bool) → is_cell x ≡ b → (IsAmong s (others xs) → (is_cell s ≡ false) × IsAmong s xs) → IsAmong s (cond (not b) (x ∷ others xs) (others xs)) → (is_cell s ≡ false) × IsAmong s (x ∷ xs)
    by true e k n = let deep = k n in (deep.0, inr deep.1)
    by false e k (inl same) = (ap is_cell (sym same) ∙ e, inl same)
    by false e k (inr n) = let deep = k n in (deep.0, inr deep.1)

others_among : (s : Source) (xs : List Source) → is_cell s ≡ false → IsAmong s xs → IsAmong s (others xs)
others_among s [] calm m = absurd m
others_among s (x ∷ xs) calm m = by (is_cell x) refl (others_among s xs calm) m
  where
    by : (b : Bool) → is_cell x ≡ b → (IsAmong s xs → IsAmong s (others xs)) → IsAmong s (x ∷ xs) → IsAmong s (cond (not b) (x ∷ others xs) (others xs))
    by true e k (inl same) = let both : true ≡ false = sym e ∙ ap is_cell same ∙ calm in cc
    by true e k (inr n) = k n
    by false e k (inl same) = inl same
    by false e k (inr n) = inr (k n)

pub others_both : (s : Source) (xs : List Source) → IsAmong s (others xs) ↔ ((is_cell s ≡ false) × IsAmong s xs)
others_both s xs = (among_others s xs, λ h. others_among s xs h.0 h.1)

-- what is merged rises, and has the sources of both
pub merged_rises : (xs ys all : List Source) → AreSourcesRising xs → AreSourcesRising ys → all ≡ merge xs ys → AreSourcesRising all
merged_rises xs ys all a b e = subst AreSourcesRising (sym e) (rising_merge xs ys a b)

pub merged_has : (xs ys all : List Source) → all ≡ merge xs ys → (s : Source) → IsAmong s all ↔ (IsAmong s xs ⊎ IsAmong s ys)
merged_has xs ys all e s = subst (λ (zs : List Source). IsAmong s zs ↔ (IsAmong s xs ⊎ IsAmong s ys)) (sym e) (merge_both s xs ys)
