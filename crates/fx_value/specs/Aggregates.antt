-- What is summed up of many numbers.
use Rattle.std.specs.Prelude.{◌≡◌, ◌⊎◌, ℕ, ◌*◌, ℤ, pos, neg_ℤ, ◌+ℤ◌, ◌≤ℤ◌, List, [], fold, length}
use Rattle.std.specs.Prelude.{MatchOption, Option, Some, None}
use Rattle.std.specs.List.{All, Contains, filter_map}
use Rattle.fx_number.specs.Decimal.{greatest as limit}
use Rattle.fx_types.specs.Values.{Data, number}
use Rattle.fx_types.specs.declared.aggregates.Totals.{Totals}

-- the number in a value, if it is one
abbrev pub number_if_one : Data → Option ℤ
number_if_one (number z) = Some z
number_if_one _ = None

-- the numbers among values, as their ten-thousandths
abbrev pub numbers_in : List Data → List ℤ
numbers_in = filter_map number_if_one

-- the sum of whole numbers
abbrev pub sum_of : List ℤ → ℤ
sum_of zs = fold ◌+ℤ◌ (pos 0) zs

-- one of the numbers that is not above any of them, and none of none
abbrev pub IsLeast : List ℤ → Option ℤ → Type 0
IsLeast zs least = MatchOption least (zs ≡ []) (λ m. Contains zs m × All (λ z. m ≤ℤ z) zs)

-- one of the numbers that is not below any of them, and none of none
abbrev pub IsGreatest : List ℤ → Option ℤ → Type 0
IsGreatest zs greatest = MatchOption greatest (zs ≡ []) (λ m. Contains zs m × All (λ z. z ≤ℤ m) zs)

-- how many numbers there are, their sum, and the least and the greatest of them
pub record SumsUp (zs : List ℤ) (totals : Totals) : Type 0 where
  pub count : totals.count ≡ length zs
  pub sum : totals.sum ≡ sum_of zs
  pub has_least : IsLeast zs totals.least
  pub has_greatest : IsGreatest zs totals.greatest

-- the sum of so many numbers is no farther from 0 than so many times the greatest number
pub record IsBoundedSum (count : ℕ) (sum : ℤ) : Type 0 where
  pub low : neg_ℤ (pos (count * limit)) ≤ℤ sum
  pub high : sum ≤ℤ pos (count * limit)

-- one of two numbers that is above neither, and of one number that one
abbrev pub IsLesser : Option ℤ → ℤ → ℤ → Type 0
IsLesser first second r = MatchOption first (r ≡ second)
    (λ m. ((r ≡ m) ⊎ (r ≡ second)) × (r ≤ℤ m) × (r ≤ℤ second))

-- one of two numbers that is below neither, and of one number that one
abbrev pub IsGreater : Option ℤ → ℤ → ℤ → Type 0
IsGreater first second r = MatchOption first (r ≡ second)
    (λ m. ((r ≡ m) ⊎ (r ≡ second)) × (m ≤ℤ r) × (second ≤ℤ r))
