-- What holds of a bag at any time.
use Rattle.std.specs.Prelude.{◌<◌, List, ℤ}
use Rattle.fx_number.specs.Decimal.{IsInRange}
use Rattle.number_bags.specs.Rising.{times}
use Rattle.number_bags.specs.Sums.{IsSummed}
use Rattle.number_bags.specs.declared.sums.Sums.{Sums}

-- each of the numbers is in range
abbrev pub AreInRange : List ℤ → Type 0
AreInRange zs = (z : ℤ) → 0 < times z zs → IsInRange z

-- the sums are those of the numbers, now and as the transaction began
pub record IsKept (s s_then : Sums) (now then : List ℤ) : Type 0 where
  pub now_summed : IsSummed s now
  pub then_summed : IsSummed s_then then
  pub now_in_range : AreInRange now
  pub then_in_range : AreInRange then
