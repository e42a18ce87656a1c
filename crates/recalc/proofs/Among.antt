-- Sources among others, by their places.
use Rattle.std.proofs.Common.{◌≡◌, ℕ, zero, suc, ◌+◌, ◌<◌, List, [], ◌∷◌, length, get_or, Some, sym, subst, ap, ◌∙◌, arith, inl, inr}
use Rattle.std.proofs.lemmas.Bool.{cases_eq}
use Rattle.std.proofs.lemmas.Option.{slice_get-get_or}
use Rattle.std.specs.List.{slice_get}
use Rattle.fx_core.specs.Reads.{IsAmong}
use Rattle.fx_core.specs.declared.sources.Source.{Source}

-- one that is among sources stands at a place
pub among_at : (s : Source) (xs : List Source) → IsAmong s xs → (j : ℕ) × (j < length xs) × (slice_get xs j ≡ Some s)
among_at s [] h = absurd h
among_at s (x ∷ xs) (inl e) = (0, omega arith, ap Some e)
among_at s (x ∷ xs) (inr h) = let r = among_at s xs h in (suc r.0, (let l = r.1 in omega (arith, l)), r.2)

-- and what stands at a place is among them
pub at_among : (s : Source) (xs : List Source) (j : ℕ) → slice_get xs j ≡ Some s → IsAmong s xs
at_among s [] j h = absurd cc
at_among s (x ∷ xs) zero h = let same : x ≡ s = cc in inl same
at_among s (x ∷ xs) (suc j) h = inr (at_among s xs j h)

-- what holds of the sources before a place, and of the one there, holds of those up to it
pub one_more : (P : Source → Type 0) (xs : List Source) (i : ℕ) (d : Source) → i < length xs → ((j : ℕ) (s : Source) → j < i → slice_get xs j ≡ Some s → P s) → P (get_or xs i d) → (j : ℕ) (s : Source) → j < i + 1 → slice_get xs j ≡ Some s → P s
one_more P xs i d within before here j s low at = elim (cases_eq j i) [
  | inl e ↦
      let there : slice_get xs i ≡ Some s = subst (λ m. slice_get xs m ≡ Some s) e at in
      let got : slice_get xs i ≡ Some (get_or xs i d) = slice_get-get_or xs i d within in
      subst P (let both : Some (get_or xs i d) ≡ Some s = sym got ∙ there in cc) here
  | inr other ↦ before j s (omega (arith, low, other)) at
]

-- one of which it holds is found at a place
pub found_there : (Q : Source → Type 0) (xs : List Source) (i : ℕ) (d : Source) → i < length xs → Q (get_or xs i d) → (s : Source) × IsAmong s xs × Q s
found_there Q xs i d within h = (get_or xs i d, at_among (get_or xs i d) xs i (slice_get-get_or xs i d within), h)
