-- A connection that is lost as it is taken over.
use Rattle.std.proofs.Common.{◌≤◌, Bool, true, false, Option, None, Some, Err, arith}
use Rattle.sqlite.specs.Held.{Held}
use Rattle.sqlite.specs.State.{State}
use Rattle.sqlite_trees.specs.View.{doubt}
use Rattle.row_keeper.specs.declared.keeper.KeeperEnd.{KeeperEnd}
use Rattle.store_attaching.specs.Taken.{SeatTakes}

at_most_one : (b : Bool) → doubt b ≤ 1
unfolding doubt
at_most_one true = omega arith
at_most_one false = omega arith

-- a lost connection is in doubt
pub lost : {S : Type 0} (state : Held S → State) (a : Option (Held S)) (e : KeeperEnd) → SeatTakes state a None (Err e)
lost state None e = record { later = omega arith; made = tt }
lost state (Some a) e = record { later = at_most_one (state a).is_clean; made = tt }
