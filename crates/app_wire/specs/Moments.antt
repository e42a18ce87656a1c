-- The moments that a clock gives.
use Rattle.std.specs.Prelude.{◌≡◌, ℕ, List, [], ◌∷◌, Option, Some, None}

-- a clock that will give these moments gives this one; the last repeats, and where none is left it
-- gives 0
abbrev pub Tick : ℕ → Option (List ℕ) → Option (List ℕ) → Type 0
Tick moment None new = Unit {0}
Tick moment (Some []) new = (moment ≡ 0) × (new ≡ Some [])
Tick moment (Some (x ∷ [])) new = (moment ≡ x) × (new ≡ Some (x ∷ []))
Tick moment (Some (x ∷ y ∷ ys)) new = (moment ≡ x) × (new ≡ Some (y ∷ ys))

-- these moments, one after another
abbrev pub Ticks : Option (List ℕ) → List ℕ → Option (List ℕ) → Type 0
Ticks old [] new = new ≡ old
Ticks old (moment ∷ moments) new = (mid : Option (List ℕ)) × Tick moment old mid
    × Ticks mid moments new
