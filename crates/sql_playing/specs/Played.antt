-- What the four tables hold, in a transaction and at rest.
use Rattle.std.specs.Prelude.{◌≡◌, true, List}
use Rattle.sqlite.specs.State.{State}
use Rattle.sqlite.specs.Tree.{Trees}
use Rattle.sql_meanings.specs.UnderWay.{IsReady, IsUnderWay}
use Rattle.sql_contents.specs.Contents.{Contents, Holds}
use Rattle.row_plan.specs.Statements.{CanRunAll, Statement, after}

-- a transaction is under way on the four tables, which hold this
pub record IsAt (s : State) (k : Contents) : Type 0 where
  pub goes_on : IsUnderWay s
  pub holds : Holds s.now.trees k

-- the connection is at rest on the four tables, which hold this
pub record RestsAt (s : State) (k : Contents) : Type 0 where
  pub ready : IsReady s
  pub holds : Holds s.now.trees k

-- the transaction goes on, and what is committed is what was
pub record StaysInside (old new : State) : Type 0 where
  pub under_way : new.in_transaction ≡ true
  pub committed : new.committed ≡ old.committed

-- what the statements make of the four tables, whatever these held at rest
abbrev pub HoldsAfter : State → List Statement → Trees → Type 0
HoldsAfter old ss db = (k : Contents) → RestsAt old k → CanRunAll ss k → Holds db (after ss k)
