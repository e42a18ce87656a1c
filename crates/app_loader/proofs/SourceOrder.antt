-- The order of sources, and lists in it, each source once.
use Rattle.std.proofs.Common.{inl, inr, ◌≡◌, List, [], ◌∷◌, refl, ap, sym, subst, ◌∙◌}
use Rattle.std.specs.Ordering.{ordering_reverse}
use Rattle.std.specs.declared.cmp.Ordering.TheVariants.{Less, Greater}
use Rattle.std.proofs.lemmas.Cmp.{nat_list_cmp_total}
use Rattle.fx_core.specs.Reads.{AreSourcesRising, IsAmong, IsSourceBelowAll, source_order}
use Rattle.fx_core.specs.declared.sources.Source.{Source}
use Rattle.fx_core.proofs.Ordered.{by_keys, key_of}

-- no two are each below the other
not_both_below : (s t : Source) → source_order s t ≡ Less → source_order t s ≡ Less → ⊥
not_both_below s t d e =
    let both : Less ≡ Greater = sym d ∙ by_keys s t ∙ nat_list_cmp_total.antisymm (key_of s) (key_of t) ∙ ap ordering_reverse (sym (by_keys t s) ∙ e) in
    cc

below_among : (s t : Source) (ts : List Source) → IsSourceBelowAll s ts → IsAmong t ts → source_order s t ≡ Less
below_among s t [] b a = absurd a
below_among s t (u ∷ us) b (inl e) = subst (λ z. source_order s z ≡ Less) e b.0
below_among s t (u ∷ us) b (inr a) = below_among s t us b.1 a

first_one : (x y : Source) (xs ys : List Source) → IsSourceBelowAll x xs → IsSourceBelowAll y ys → IsAmong x (y ∷ ys) → IsAmong y (x ∷ xs) → x ≡ y
first_one x y xs ys b d (inl e) k = sym e
first_one x y xs ys b d (inr a) (inl e) = e
first_one x y xs ys b d (inr a) (inr k) = absurd (not_both_below x y (below_among x y xs b k) (below_among y x ys d a))

later_one : (x y s : Source) (xs ys : List Source) → x ≡ y → IsSourceBelowAll x xs → IsAmong s xs → IsAmong s (y ∷ ys) → IsAmong s ys
later_one x y s xs ys e b a (inl h) =
    let self : source_order s s ≡ Less = subst (λ z. source_order z s ≡ Less) (e ∙ h) (below_among x s xs b a) in
    absurd (not_both_below s s self self)
later_one x y s xs ys e b a (inr h) = h

-- lists in order that have the same sources are one
pub sources_one : (xs ys : List Source) → AreSourcesRising xs → AreSourcesRising ys → ((s : Source) → IsAmong s xs → IsAmong s ys) → ((s : Source) → IsAmong s ys → IsAmong s xs) → xs ≡ ys
sources_one [] [] p q to from = refl
sources_one [] (y ∷ ys) p q to from = absurd (from y (inl refl))
sources_one (x ∷ xs) [] p q to from = absurd (to x (inl refl))
sources_one (x ∷ xs) (y ∷ ys) p q to from =
    let first : x ≡ y = first_one x y xs ys p.0 q.0 (to x (inl refl)) (from y (inl refl)) in
    let others : xs ≡ ys =
    sources_one xs ys p.1 q.1 (λ s a. later_one x y s xs ys first p.0 a (to s (inr a))) (λ s a. later_one y x s ys xs (sym first) q.0 a (from s (inr a))) in
    λ i. first i ∷ others i
