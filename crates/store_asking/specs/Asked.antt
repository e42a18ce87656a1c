-- What a call that reads leaves of a connection at rest.
use Rattle.std.specs.Prelude.{◌≡◌, ◌≤◌, Bool, false}
use Rattle.sqlite.specs.State.{State, HasCleanDisk}
use Rattle.sqlite_trees.specs.View.{doubt}
use Rattle.sql_meanings.specs.UnderWay.{IsReady}

-- A connection at rest stays so, with its tables, unless the call fails. The doubt whether the disk
-- gives back what it was given never falls.
pub record StaysAtRest (old new : State) (failed : Bool) : Type 0 where
  pub later : doubt old.is_clean ≤ doubt new.is_clean
  pub rests : HasCleanDisk new → IsReady old → failed ≡ false → IsReady new × (new.now ≡ old.now)
