-- A database that has the four tables, in order: in a transaction, or at rest.
use Rattle.std.specs.Prelude.{◌≡◌, ◌≢◌, ℕ, true, false, IsTrue, List, [], length}
use Rattle.sqlite.specs.Tree.{Trees}
use Rattle.sqlite.specs.State.{State}
use Rattle.sqlite_trees.specs.View.{IsShaped}
use Rattle.sqlite_trees.specs.declared.store.Shape.TheVariants.{Table as TableShape}
use Rattle.sql_meanings.specs.Schema.{kept_schema}
use Rattle.sql_meanings.specs.Forms.{OthersStay}

-- in each table the rowids are whole numbers and rise, so none comes twice
pub record AreSeated (trees : Trees) : Type 0 where
  pub shape : IsShaped TableShape (trees 0)
  pub tabs : IsShaped TableShape (trees 1)
  pub lines : IsShaped TableShape (trees 2)
  pub marks : IsShaped TableShape (trees 4)

-- a transaction is begun on the four tables
pub record IsUnderWay (s : State) : Type 0 where
  pub under_way : s.in_transaction ≡ true
  pub schema : s.now.schema ≡ kept_schema
  pub seated : AreSeated s.now.trees

-- the connection is open, with no transaction, on the four tables as they are committed
pub record IsReady (s : State) : Type 0 where
  pub is_open : IsTrue s.is_open
  pub idle : s.in_transaction ≡ false
  pub settled : s.now ≡ s.committed
  pub schema : s.now.schema ≡ kept_schema
  pub seated : AreSeated s.now.trees

-- the table of this tree has no row any more, as many are counted as it had, and each other one has
-- its rows
pub record Clears (old new : State) (tree count : ℕ) : Type 0 where
  pub goes_on : IsUnderWay new
  pub empty : new.now.trees tree ≡ []
  pub counted : count ≡ length (old.now.trees tree)
  pub others : OthersStay old new kept_schema tree

-- the four tables have no row
pub record AreEmpty (trees : Trees) : Type 0 where
  pub shape : trees 0 ≡ []
  pub tabs : trees 1 ≡ []
  pub lines : trees 2 ≡ []
  pub marks : trees 4 ≡ []

-- the four tables stand in a transaction, without rows
pub record IsEmptied (s : State) : Type 0 where
  pub goes_on : IsUnderWay s
  pub empty : AreEmpty s.now.trees

-- the four tables are committed, without rows
pub record IsNew (s : State) : Type 0 where
  pub ready : IsReady s
  pub empty : AreEmpty s.now.trees
