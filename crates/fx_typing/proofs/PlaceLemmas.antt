-- The first thing that a test keeps, with its place or without it.
use Rattle.std.proofs.Common.{◌≡◌, ℕ, suc, List, [], ◌∷◌, Bool, true, false, Some, option_map, refl, if◌then◌else◌}
use Rattle.std.specs.List.{find}
use Rattle.fx_typing.specs.Meaning.{first_match}

pub thing_found : {A : Type 0} (p : A → Bool) (i : ℕ) (xs : List A) → option_map (λ (k : ℕ × A). k.1) (first_match p i xs) ≡ find p xs
thing_found p i [] = refl
thing_found {A = A} p i (x ∷ xs) = by (p x) (thing_found p (suc i) xs)
  where
    by : (b : Bool) → option_map (λ (k : ℕ × A). k.1) (first_match p (suc i) xs) ≡ find p xs →
        option_map (λ (k : ℕ × A). k.1) (if b then Some (i, x) else first_match p (suc i) xs) ≡ (if b then Some x else find p xs)
    by true e = refl
    by false e = e
