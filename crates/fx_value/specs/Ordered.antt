-- Rows in the order of their keys.
use Rattle.std.specs.Prelude.{◌≡◌, Bool, List, map, if◌then◌else◌}
use Rattle.std.specs.List.{All, zip}
use Rattle.std.specs.List.Sorted.{IsPermutation, IsSortedByKey, IsStableByKey}
use Rattle.std.specs.declared.cmp.Ordering.{Ordering}
use Rattle.fx_types.specs.Values.{Data}
use Rattle.fx_value.specs.Order.{AreOfOneType, order}
use Rattle.fx_value.specs.Columns.{Row}

-- scalars of one type, or blank: each goes with each
abbrev pub AreKeys : List Data → Type 0
AreKeys keys = All (λ a. All (AreOfOneType a) keys) keys

-- the order of scalars, turned round for a descending one
abbrev pub directed : Bool → Data → Data → Ordering
directed down a b = if down then order b a else order a b

-- The rows in another order, in which their keys don't fall (descending: don't rise), and rows of
-- equal keys keep their order. `pairs` are the rows so ordered, each beside its key.
pub record IsOrderedBy (down : Bool) (keys : List Data) (rows ordered : List Row) : Type 0 where
  pub pairs : List (Data × Row)
  pub rearranged : IsPermutation (zip keys rows) pairs
  pub sorted : IsSortedByKey (λ (p : Data × Row). p.0) (directed down) pairs
  pub stable : IsStableByKey (λ (p : Data × Row). p.0) (directed down) (zip keys rows) pairs
  pub result : ordered ≡ map (λ (p : Data × Row). p.1) pairs

-- rows have one order by their keys
abbrev pub OrderedOnce : Type 0
OrderedOnce = (down : Bool) (keys : List Data) (rows a b : List Row) → IsOrderedBy down keys rows a
    → IsOrderedBy down keys rows b → a ≡ b
