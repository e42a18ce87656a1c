-- The numbers of cells of which something holds, in rising order, as far as they have been listed.
use Rattle.std.proofs.Common.{◌≡◌, ℕ, zero, suc, ◌+◌, ◌<◌, List, [], ◌∷◌, ◌++◌, length, get_or, Option, Some, None, refl, sym, subst, arith, inl, inr}
use Rattle.std.proofs.lemmas.Bool.{cases_eq}
use Rattle.std.proofs.lemmas.List.{get_or_default}
use Rattle.std.proofs.lemmas.List.Elements.{Contains-append_cases, Contains-append_left, Contains-append_right}
use Rattle.std.proofs.lemmas.List.Quantifiers.{all_pairs_push}
use Rattle.std.specs.List.{AllPairs, Contains}
use Rattle.recalc.specs.declared.stamps.Stamp.{Stamp}

-- of the numbers below n, these are the ones of which P holds
pub record AreListed (P : ℕ → Type 0) (n : ℕ) (xs : List ℕ) : Type 0 where
  pub made : (k : ℕ) → k < n → P k → Contains xs k
  pub only : (k : ℕ) → Contains xs k → (k < n) × P k
  pub rising : AllPairs (λ x y. x < y) xs

pub listed_none : (P : ℕ → Type 0) → AreListed P 0 []
listed_none P = record {
  made = λ k low h. absurd (omega arith);
  only = λ k there. absurd (omega (arith, there.1));
  rising = λ i j d before within. absurd (omega arith);
}

pub at_head : (n : ℕ) → Contains (n ∷ []) n
at_head n = (0, omega arith, refl)

pub the_head : (n k : ℕ) → Contains (n ∷ []) k → k ≡ n
the_head n k (zero, l, e) = let same : n ≡ k = e in cc
the_head n k (suc j, l, e) = absurd (omega (arith, l))

pub listed_more : (P : ℕ → Type 0) (n : ℕ) (xs : List ℕ) → P n → AreListed P n xs → AreListed P (n + 1) (xs ++ n ∷ [])
listed_more P n xs h l = record {
  made = λ k low p. elim (cases_eq k n) [
    | inl e ↦ Contains-append_right xs (n ∷ []) k (subst (λ m. Contains (n ∷ []) m) (sym e) (at_head n))
    | inr other ↦ Contains-append_left xs (n ∷ []) k (l.made k (omega (arith, low, other)) p)
  ];
  only = λ k there. elim (Contains-append_cases xs (n ∷ []) k there) [
    | inl before ↦ let was = l.only k before in ((let low = was.0 in omega (arith, low)), was.1)
    | inr last ↦ let e : k ≡ n = the_head n k last in ((omega (arith, e)), subst P (sym e) h)
  ];
  rising = all_pairs_push (λ x y. x < y) xs n l.rising (λ k d within. (l.only (get_or xs k d) (k, within, get_or_default xs k (get_or xs k d) d within)).0);
}

pub listed_same : (P : ℕ → Type 0) (n : ℕ) (xs : List ℕ) → (P n → ⊥) → AreListed P n xs → AreListed P (n + 1) xs
listed_same P n xs far l = record {
  made = λ k low p. elim (cases_eq k n) [
    | inl e ↦ absurd (far (subst P e p))
    | inr other ↦ l.made k (omega (arith, low, other)) p
  ];
  only = λ k there. let was = l.only k there in ((let low = was.0 in omega (arith, low)), was.1);
  rising = l.rising;
}

-- what is kept is within the list of stamps
pub stamp_within : (xs : List (Option Stamp)) (k : ℕ) (e : Stamp) → get_or xs k None ≡ Some e → k < length xs
stamp_within [] k e h = absurd cc
stamp_within (x ∷ xs) zero e h = omega arith
stamp_within (x ∷ xs) (suc k) e h = let low = stamp_within xs k e h in omega (arith, low)
