-- Bags of numbers: what stands in them, and when one is ready for a change.
use Rattle.std.specs.Prelude.{◌≡◌, ◌==◌, cond, List, ℤ, Option, Some, None, IfSome}
use Rattle.number_bags.specs.Entries.{HasRoom, spread_now, spread_then}
use Rattle.number_bags.specs.Rising.{times, with_option}
use Rattle.number_bags.specs.Sums.{HasPlace}
use Rattle.number_bags.specs.declared.bags.NumberBag.{NumberBag}
use Rattle.number_bags.specs.declared.counts.Counts.{Counts}

-- the numbers that stand in a bag now, as they rise, and those as the transaction began: the ones
-- that are counted, and the one that came last
abbrev pub now_in : NumberBag → List ℤ
now_in b = with_option b.late (spread_now b.counts.entries.entries)

abbrev pub then_in : NumberBag → List ℤ
then_in b = with_option b.late_then (spread_then b.counts.entries.entries)

-- there is room for a number, if it is one
abbrev pub HaveRoom : Counts → Option ℤ → Type 0
HaveRoom c number = IfSome number (HasRoom c.touched.items c.entries.entries)

-- a number can be taken out, where it stands there, and one be put in, both without memory
pub record IsReady (b : NumberBag) (old : Option ℤ) : Type 0 where
  pub free : b.late ≡ None
  pub place : HasPlace b.sums
  pub room : HaveRoom b.counts old

-- a number, where it stands among others
abbrev pub counted : Option ℤ → List ℤ → Option ℤ
counted None zs = None
counted (Some z) zs = cond (times z zs == 0) None (Some z)
