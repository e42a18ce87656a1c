-- The tables of a schema as they are kept at first, without rows.
use Rattle.std.specs.Prelude.{◌≡◌, ℕ, zero, suc, true, List, [], ◌∷◌, Some}
use Rattle.sqlite.specs.State.{State}
use Rattle.sqlite.specs.Tree.{Trees}
use Rattle.sql_meanings.specs.Body.{HasBody}
use Rattle.sql_meanings.specs.Lasts.{AreLasts, LastsOf}
use Rattle.sql_meanings.specs.UnderWay.{IsReady, IsUnderWay}

-- so many tables from this one on, none of which has given a number
abbrev pub new_lasts : ℕ → ℕ → LastsOf
new_lasts tab zero = []
new_lasts tab (suc n) = (tab, 0) ∷ new_lasts (suc tab) n

-- the body of a schema with so many tables is kept, and there are no rows
pub record AreNewTables (trees : Trees) (bytes : List ℕ) (count : ℕ) : Type 0 where
  pub body : HasBody trees (Some bytes)
  pub lasts : AreLasts trees (new_lasts 0 count)
  pub lines : trees 2 ≡ []
  pub marks : trees 4 ≡ []

-- in a transaction
pub record IsAtNew (s : State) (bytes : List ℕ) (count : ℕ) : Type 0 where
  pub goes_on : IsUnderWay s
  pub holds : AreNewTables s.now.trees bytes count

-- at rest
pub record RestsAtNew (s : State) (bytes : List ℕ) (count : ℕ) : Type 0 where
  pub ready : IsReady s
  pub holds : AreNewTables s.now.trees bytes count

-- so many tables are kept, and the rows of the other three trees stay
pub record PutsLasts (old new : State) (count : ℕ) : Type 0 where
  pub goes_on : IsUnderWay new
  pub lasts : AreLasts new.now.trees (new_lasts 0 count)
  pub shape : new.now.trees 0 ≡ old.now.trees 0
  pub lines : new.now.trees 2 ≡ old.now.trees 2
  pub marks : new.now.trees 4 ≡ old.now.trees 4

-- the transaction goes on, and what is committed is what was
abbrev pub StaysIn : State → State → Type 0
StaysIn old new = (new.in_transaction ≡ true) × (new.committed ≡ old.committed)
