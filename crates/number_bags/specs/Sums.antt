-- How many numbers there are, and their sum.
use Rattle.std.specs.Prelude.{◌≡◌, ℕ, ◌<◌, ◌-◌, ◌^◌, List, length, ℤ, pos, neg_ℤ, ◌≤ℤ◌, Option}
use Rattle.std.specs.Prelude.{Some}
use Rattle.std.specs.Prelude.{None}
use Rattle.fx_value.specs.Aggregates.{sum_of}
use Rattle.number_bags.specs.declared.sums.Sums.{Sums}

-- these are how many numbers there are, and their sum
pub record IsSummed (s : Sums) (zs : List ℤ) : Type 0 where
  pub count : s.count ≡ length zs
  pub sum : s.sum ≡ sum_of zs

-- there may be one number more, and one other
pub record HasPlace (s : Sums) : Type 0 where
  pub count : s.count < 2 ^ 32 - 1
  pub low : neg_ℤ (pos (2 ^ 100)) ≤ℤ s.sum
  pub high : s.sum ≤ℤ pos (2 ^ 100)

-- there may be one number more
pub record HasPlaceAfter (s : Sums) : Type 0 where
  pub count : s.count < 2 ^ 32 - 1
  pub low : neg_ℤ (pos (2 ^ 101)) ≤ℤ s.sum
  pub high : s.sum ≤ℤ pos (2 ^ 101)

-- how many a number is, and what it adds
abbrev pub size_of : Option ℤ → ℕ
size_of None = 0
size_of (Some z) = 1

abbrev pub value_of : Option ℤ → ℤ
value_of None = pos 0
value_of (Some z) = z
