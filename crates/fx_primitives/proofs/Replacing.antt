-- Occurrences, and texts with stretches replaced.
use Rattle.std.proofs.Common.{◌≡◌, ℕ, ◌+◌, ◌-◌, ◌<◌, ◌≤◌, List, [], ◌∷◌, ◌++◌, length, get_or, take, drop, ap, sym, refl, subst, ◌∙◌, append_assoc, arith, length-take, length-append, inl, inr, ◌⊎◌}
use Rattle.std.proofs.lemmas.List.{drop_more, take-take, take-append-le, drop-append-le, drop-take}
use Rattle.fx_primitives.specs.Search.{IsFirstPlace}
use Rattle.fx_primitives.specs.Substitution.{AreOccurrences, AreSeparate, OneListOfOccurrences, replaced_at}

-- ---- one list of occurrences
pub trichotomy : (p q : ℕ) → (p < q) ⊎ ((p ≡ q) ⊎ (q < p))
trichotomy p q = grind arith

same_first : (old text : List ℕ) (from p q : ℕ) → IsFirstPlace old text from p → IsFirstPlace old text from q → p ≡ q
same_first old text from p q h k =
    elim (trichotomy p q) [
      | inl l ↦ absurd (k.first p h.behind l h.stands)
      | inr (inl e) ↦ e
      | inr (inr l) ↦ absurd (h.first q k.behind l k.stands)
    ]

same_occurrences : (old text : List ℕ) (from : ℕ) (ps qs : List ℕ) → AreOccurrences old text from ps → AreOccurrences old text from qs → ps ≡ qs
same_occurrences old text from [] [] h k = refl
same_occurrences old text from [] (q ∷ qs) h k = absurd (h q k.0.behind k.0.stands)
same_occurrences old text from (p ∷ ps) [] h k = absurd (k p h.0.behind h.0.stands)
same_occurrences old text from (p ∷ ps) (q ∷ qs) h k =
    let e = same_first old text from p q h.0 k.0 in
    let t = same_occurrences old text (p + length old) ps qs h.1 (subst (λ x. AreOccurrences old text (x + length old) qs) (sym e) k.1) in
    λ i. e i ∷ t i

pub one_list : OneListOfOccurrences
one_list [] text ps qs h k = h ∙ sym k
one_list (c ∷ cs) text ps qs h k = same_occurrences (c ∷ cs) text 0 ps qs h k

-- ---- stretches behind one another
pub within_end : (count end from : ℕ) (ps : List ℕ) → AreSeparate count end from ps → from ≤ end
within_end count end from [] h = h
within_end count end from (p ∷ ps) h = let k = within_end count end (p + count) ps h.1 in omega arith

-- before the first stretch nothing changes
record IsFront (from : ℕ) (text all : List ℕ) : Type 0 where
  pub same : take from all ≡ take from text
  pub long : from ≤ length all

replaced_front : (count : ℕ) (new text : List ℕ) (from : ℕ) (ps : List ℕ) → AreSeparate count (length text) from ps → IsFront from text (replaced_at count new text ps)
replaced_front count new text from [] h = record { same = refl; long = h }
replaced_front count new text from (p ∷ ps) h =
    let all = replaced_at count new text ps in
    let k = replaced_front count new text (p + count) ps h.1 in
    let long : p ≤ length all = (let l = k.long in omega arith) in
    let n : length (take p all) ≡ p = omega (arith, length-take p all) in
    record {
      same = take-append-le from (take p all) (new ++ drop (p + count) all) (omega arith) ∙ take-take from p all h.0
          ∙ sym (take-take from (p + count) all (omega arith)) ∙ ap (take from) k.same ∙ take-take from (p + count) text (omega arith);
      long = omega (arith, length-append (take p all) (new ++ drop (p + count) all));
    }

-- from one stretch to behind the next
pub replaced_step : (count : ℕ) (new text : List ℕ) (from p : ℕ) (ps : List ℕ) → AreSeparate count (length text) from (p ∷ ps)
    → drop from (replaced_at count new text (p ∷ ps)) ≡ take (p - from) (drop from text) ++ (new ++ drop (p + count) (replaced_at count new text ps))
replaced_step count new text from p ps h =
    let all = replaced_at count new text ps in
    let k = replaced_front count new text (p + count) ps h.1 in
    let long : p ≤ length all = (let l = k.long in omega arith) in
    let n : length (take p all) ≡ p = omega (arith, length-take p all) in
    let same : take p all ≡ take p text = sym (take-take p (p + count) all (omega arith)) ∙ ap (take p) k.same ∙ take-take p (p + count) text (omega arith) in
    let e : p ≡ from + (p - from) = omega arith in
    drop-append-le from (take p all) (new ++ drop (p + count) all) (omega arith)
    ∙ ap (λ xs. xs ++ (new ++ drop (p + count) all)) (ap (drop from) same ∙ ap (λ x. drop from (take x text)) e ∙ drop-take from (p - from) text)

-- the stretch at an index
pub stretch_at : (count end from : ℕ) (ps : List ℕ) (i : ℕ) → i < length ps → AreSeparate count end from (drop i ps)
    → (from ≤ get_or ps i 0) × (get_or ps i 0 + count ≤ end) × AreSeparate count end (get_or ps i 0 + count) (drop (i + 1) ps)
stretch_at count end from ps i h s =
    let k = subst (AreSeparate count end from) (drop_more ps i 0 h) s in
    (k.0, within_end count end (get_or ps i 0 + count) (drop (i + 1) ps) k.1, k.1)

-- the whole is kept from one stretch to the next
pub step_kept : (count : ℕ) (new text places made all : List ℕ) (from i : ℕ) → i < length places → AreSeparate count (length text) from (drop i places)
    → made ++ drop from (replaced_at count new text (drop i places)) ≡ all
    → ((made ++ take (get_or places i 0 - from) (drop from text)) ++ new) ++ drop (get_or places i 0 + count) (replaced_at count new text (drop (i + 1) places)) ≡ all
step_kept count new text places made all from i h s kept =
    let p = get_or places i 0 in
    let e = drop_more places i 0 h in
    let rest = drop (p + count) (replaced_at count new text (drop (i + 1) places)) in
    let part = take (p - from) (drop from text) in
    let step = replaced_step count new text from p (drop (i + 1) places) (subst (AreSeparate count (length text) from) e s) in
    append_assoc (made ++ part) new rest ∙ append_assoc made part (new ++ rest) ∙ ap (λ xs. made ++ xs) (sym step)
    ∙ ap (λ (xs : List ℕ). made ++ drop from (replaced_at count new text xs)) (sym e) ∙ kept
