-- What many numbers come to. A blank one is left out.
use Rattle.std.specs.Prelude.{◌≡◌, ℕ, ◌*◌, ℤ, pos, neg_ℤ, ◌+ℤ◌, ◌≤ℤ◌, List, [], ◌∷◌, length, fold}
use Rattle.std.specs.Prelude.{All, Contains, Option, Some, None, Result, Ok, Err}
use Rattle.std.specs.List.{filter_map}
use Rattle.fx_number.specs.Decimal.{IsInRange, greatest, rounded}
use Rattle.fx_types.specs.declared.faults.Kind.{Kind}
use Rattle.fx_types.specs.declared.faults.Kind.TheVariants.{Numeric}

-- the numbers that are not blank
abbrev pub nonblank : List (Option ℤ) → List ℤ
nonblank = filter_map (λ o. o)

-- their exact sum
abbrev pub total : List ℤ → ℤ
total = fold ◌+ℤ◌ (pos 0)

-- how many numbers there are, and their exact sum, which is no farther from 0 than so many of the
-- greatest
pub record AreSummedUp (zs : List ℤ) (count : ℕ) (sum : ℤ) : Type 0 where
  pub counts : count ≡ length zs
  pub sums : sum ≡ total zs
  pub low : neg_ℤ (pos (count * greatest)) ≤ℤ sum
  pub high : sum ≤ℤ pos (count * greatest)

-- the answer of a sum: nothing of no numbers, else the exact sum, and Numeric where that is out of
-- range
abbrev pub IsSum : List ℤ → Result (Option ℤ) Kind → Type 0
IsSum [] r = r ≡ Ok None
IsSum (z ∷ zs) (Ok found) = (found ≡ Some (total (z ∷ zs))) × IsInRange (total (z ∷ zs))
IsSum (z ∷ zs) (Err kind) = (kind ≡ Numeric) × ¬ IsInRange (total (z ∷ zs))

-- the average: nothing of no numbers, else the exact sum divided by how many there are, rounded
-- once
abbrev pub average_of : List ℤ → Option ℤ
average_of [] = None
average_of (z ∷ zs) = Some (rounded (total (z ∷ zs)) (length (z ∷ zs)))

-- one of the numbers that is not above any, and nothing of no numbers
abbrev pub IsLeast : List ℤ → Option ℤ → Type 0
IsLeast zs None = zs ≡ []
IsLeast zs (Some m) = Contains zs m × All (λ z. m ≤ℤ z) zs

-- one of the numbers that is not below any, and nothing of no numbers
abbrev pub IsGreatest : List ℤ → Option ℤ → Type 0
IsGreatest zs None = zs ≡ []
IsGreatest zs (Some m) = Contains zs m × All (λ z. z ≤ℤ m) zs
