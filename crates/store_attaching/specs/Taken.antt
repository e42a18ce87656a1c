-- A connection that a keeper takes over.
use Rattle.std.specs.Prelude.{◌≡◌, ◌≤◌, Bool, true, Option, None, Some, Result, IfOk}
use Rattle.sqlite.specs.Held.{Held}
use Rattle.sqlite.specs.State.{State, HasCleanDisk}
use Rattle.sql_meanings.specs.Schema.{no_schema}
use Rattle.sql_meanings.specs.UnderWay.{IsNew}
use Rattle.row_keeper.specs.declared.keeper.KeeperEnd.{KeeperEnd}
use Rattle.store_model.specs.Model.{doubt_of}

-- it has no table yet
abbrev pub HasNoTables : {S : Type 0} → (Held S → State) → Option (Held S) → Type 0
HasNoTables state None = ⊥
HasNoTables state (Some conn) = (state conn).now.schema ≡ no_schema

-- its tables were made, and have no rows
abbrev pub IsNewSeat : {S : Type 0} → (Held S → State) → Option (Held S) → Type 0
IsNewSeat state None = ⊥
IsNewSeat state (Some conn) = HasCleanDisk (state conn) → IsNew (state conn)

-- the doubt of the disk never falls, and it is said to be new only where its tables were made
pub record SeatTakes {S : Type 0} (state : Held S → State) (a b : Option (Held S))
    (r : Result Bool KeeperEnd) : Type 0 where
  pub later : doubt_of state a ≤ doubt_of state b
  pub made : IfOk r (λ is_new. is_new ≡ true → IsNewSeat state b)
