-- Sources that are put in order rise, and are the same.
use Rattle.std.proofs.Common.{◌≡◌, ℕ, zero, suc, List, [], ◌∷◌, refl, ap, sym, subst, ◌∙◌, inl, inr, ◌⊎◌, ◌↔◌}
use Rattle.std.specs.Ordering.{nat_cmp, ordering_then, ordering_reverse, match_ordering}
use Rattle.std.specs.Cmp.Lexicographic.{slice_cmp}
use Rattle.std.specs.declared.cmp.Ordering.{Ordering}
use Rattle.std.specs.declared.cmp.Ordering.TheVariants.{Less, Equal, Greater}
use Rattle.std.proofs.lemmas.Cmp.{nat_list_cmp_total}
use Rattle.std.proofs.lemmas.Map.Lookups.{exact_bytes}
use Rattle.fx_core.specs.declared.sources.Source.{Source}
use Rattle.fx_core.specs.declared.sources.Source.TheVariants as source
use Rattle.fx_core.specs.Reads.{source_rank, source_number, source_order, IsSourceBelowAll, AreSourcesRising, IsAmong}
use Rattle.fx_core.specs.Rising.{put, put_all}

-- a source as the list of its kind and its number
abbrev pub key_of : Source → List ℕ
key_of s = source_rank s ∷ source_number s ∷ []

abbrev by_rank : ℕ → ℕ → Source
by_rank zero n = source.Cell n
by_rank (suc zero) n = source.Global n
by_rank (suc (suc zero)) n = source.Context n
by_rank (suc (suc (suc zero))) n = source.Gathered n
by_rank (suc (suc (suc (suc zero)))) n = source.Input n
by_rank (suc (suc (suc (suc (suc zero))))) n = source.Chosen n
by_rank (suc (suc (suc (suc (suc (suc zero)))))) n = source.Table n
by_rank (suc (suc (suc (suc (suc (suc (suc k))))))) n = source.Today

abbrev of_key : List ℕ → Source
of_key (k ∷ n ∷ xs) = by_rank k n
of_key _ = source.Today

key_back : (s : Source) → of_key (key_of s) ≡ s
key_back (source.Cell n) = refl
key_back (source.Global n) = refl
key_back (source.Context n) = refl
key_back (source.Gathered n) = refl
key_back (source.Input n) = refl
key_back (source.Chosen n) = refl
key_back (source.Table n) = refl
key_back source.Today = refl

-- a source is known by its kind and its number
pub source_is : (s t : Source) → source_rank s ≡ source_rank t → source_number s ≡ source_number t → s ≡ t
source_is s t e f = sym (key_back s) ∙ ap (by_rank (source_rank s)) f ∙ ap (λ r. by_rank r (source_number t)) e ∙ key_back t

then_equal : (o : Ordering) → ordering_then o Equal ≡ o
then_equal Less = refl
then_equal Equal = refl
then_equal Greater = refl

pub by_keys : (s t : Source) → source_order s t ≡ slice_cmp nat_cmp (key_of s) (key_of t)
by_keys s t = ap (ordering_then (nat_cmp (source_rank s) (source_rank t))) (sym (then_equal (nat_cmp (source_number s) (source_number t))))

-- the order tells sources apart
pub order_tells : (s t : Source) → source_order s t ≡ Equal → s ≡ t
order_tells s t e = sym (key_back s) ∙ ap of_key (exact_bytes (key_of s) (key_of t) (sym (by_keys s t) ∙ e)) ∙ key_back t

order_chains : (r s t : Source) → source_order r s ≡ Less → source_order s t ≡ Less → source_order r t ≡ Less
order_chains r s t d e = by_keys r t ∙ nat_list_cmp_total.trans (key_of r) (key_of s) (key_of t) (sym (by_keys r s) ∙ d) (sym (by_keys s t) ∙ e)

pub order_flips : (s t : Source) → source_order s t ≡ Greater → source_order t s ≡ Less
order_flips s t e = by_keys t s ∙ nat_list_cmp_total.antisymm (key_of t) (key_of s) ∙ ap ordering_reverse (sym (by_keys s t) ∙ e)

pub below_more : (s t : Source) (ts : List Source) → source_order s t ≡ Less → IsSourceBelowAll t ts → IsSourceBelowAll s ts
below_more s t [] e h = tt
below_more s t (u ∷ us) e h = (order_chains s t u e h.0, below_more s t us e h.1)

below_put : (s t : Source) (ts : List Source) → source_order t s ≡ Less → IsSourceBelowAll t ts → IsSourceBelowAll t (put s ts)
below_put s t [] e h = (e, tt)
below_put s t (u ∷ us) e h = by_order (source_order s u) (below_put s t us e h.1)
  where
    by_order : (o : Ordering) → IsSourceBelowAll t (put s us) → IsSourceBelowAll t (match_ordering o (s ∷ u ∷ us) (u ∷ us) (u ∷ put s us))
    by_order Less k = (e, h)
    by_order Equal k = h
    by_order Greater k = (h.0, k)

rising_put : (s : Source) (ts : List Source) → AreSourcesRising ts → AreSourcesRising (put s ts)
rising_put s [] h = (tt, tt)
rising_put s (t ∷ ts) h = by_order (source_order s t) refl (rising_put s ts h.1)
  where
    by_order : (o : Ordering) → source_order s t ≡ o → AreSourcesRising (put s ts) → AreSourcesRising (match_ordering o (s ∷ t ∷ ts) (t ∷ ts) (t ∷ put s ts))
    by_order Less e k = ((e, below_more s t ts e h.0), h)
    by_order Equal e k = h
    by_order Greater e k = (below_put s t ts (order_flips s t e) h.0, k)

pub rising_put_all : (ss ts : List Source) → AreSourcesRising ts → AreSourcesRising (put_all ss ts)
rising_put_all [] ts h = h
rising_put_all (s ∷ ss) ts h = rising_put_all ss (put s ts) (rising_put s ts h)

-- one more source is that source or one of the others
among_put : (q s : Source) (ts : List Source) → IsAmong q (put s ts) → (s ≡ q) ⊎ IsAmong q ts
among_put q s [] h = h
among_put q s (t ∷ ts) h = by_order (source_order s t) (among_put q s ts) h
  where
    by_order : (o : Ordering) → (IsAmong q (put s ts) → (s ≡ q) ⊎ IsAmong q ts) → IsAmong q (match_ordering o (s ∷ t ∷ ts) (t ∷ ts) (t ∷ put s ts)) → (s ≡ q) ⊎ IsAmong q (t ∷ ts)
    by_order Less k h = h
    by_order Equal k h = inr h
    by_order Greater k (inl e) = inr (inl e)
    by_order Greater k (inr i) = elim (k i) [ inl e ↦ inl e | inr j ↦ inr (inr j) ]

put_among : (q s : Source) (ts : List Source) → (s ≡ q) ⊎ IsAmong q ts → IsAmong q (put s ts)
put_among q s [] h = h
put_among q s (t ∷ ts) h = by_order (source_order s t) refl (put_among q s ts) h
  where
    by_order : (o : Ordering) → source_order s t ≡ o → ((s ≡ q) ⊎ IsAmong q ts → IsAmong q (put s ts)) → (s ≡ q) ⊎ IsAmong q (t ∷ ts) → IsAmong q (match_ordering o (s ∷ t ∷ ts) (t ∷ ts) (t ∷ put s ts))
    by_order Less e k h = h
    by_order Equal e k (inl h) = inl (sym (order_tells s t e) ∙ h)
    by_order Equal e k (inr h) = h
    by_order Greater e k (inl h) = inr (k (inl h))
    by_order Greater e k (inr (inl h)) = inl h
    by_order Greater e k (inr (inr h)) = inr (k (inr h))

among_put_all : (q : Source) (ss ts : List Source) → IsAmong q (put_all ss ts) → IsAmong q ss ⊎ IsAmong q ts
among_put_all q [] ts h = inr h
among_put_all q (s ∷ ss) ts h =
    elim (among_put_all q ss (put s ts) h) [
      | inl i ↦ inl (inr i)
      | inr j ↦ elim (among_put q s ts j) [ inl e ↦ inl (inl e) | inr k ↦ inr k ]
    ]

put_all_among : (q : Source) (ss ts : List Source) → IsAmong q ss ⊎ IsAmong q ts → IsAmong q (put_all ss ts)
put_all_among q [] ts (inr h) = h
put_all_among q [] ts (inl h) = absurd h
put_all_among q (s ∷ ss) ts (inl (inl e)) = put_all_among q ss (put s ts) (inr (put_among q s ts (inl e)))
put_all_among q (s ∷ ss) ts (inl (inr i)) = put_all_among q ss (put s ts) (inl i)
put_all_among q (s ∷ ss) ts (inr j) = put_all_among q ss (put s ts) (inr (put_among q s ts (inr j)))

pub same_sources : (q : Source) (ss : List Source) → IsAmong q (put_all ss []) ↔ IsAmong q ss
same_sources q ss = (λ h. elim (among_put_all q ss [] h) [ inl i ↦ i | inr j ↦ absurd j ], λ h. put_all_among q ss [] (inl h))
