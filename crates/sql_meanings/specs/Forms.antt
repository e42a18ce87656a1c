-- What a statement of each form makes of the tables.
use Rattle.std.specs.Prelude.{◌≡◌, ◌≢◌, ◌⊎◌, ℕ, true, false, Bool, IsTrue, List, [], ◌∷◌, length}
use Rattle.std.specs.Prelude.{filter, map, if◌then◌else◌, not, IsPermutation}
use Rattle.std.specs.List.{AllByRecursion}
use Rattle.sqlite.specs.Order.{Row}
use Rattle.sqlite.specs.Edit.{is_taken}
use Rattle.sqlite.specs.Schema.{Schema}
use Rattle.sqlite.specs.Table.{Table}
use Rattle.sqlite.specs.State.{State, IsUnchanged, IsRolledBack}
use Rattle.sqlite_trees.specs.View.{IsShaped}
use Rattle.sqlite_trees.specs.declared.store.Shape.TheVariants.{Table as TableShape}
use Rattle.sql_meanings.specs.Schema.{kept_schema}

-- each other table has its rows
abbrev pub OthersStay : State → State → Schema → ℕ → Type 0
OthersStay old new schema tree = AllByRecursion
    (λ (it : Table). it.tree ≢ tree → new.now.trees it.tree ≡ old.now.trees it.tree) schema.tables

-- the table's tree has these rows, in the order of their rowids, each other table has its own, and
-- so many were changed
pub record Rewrites (old new : State) (table : Table) (made : List Row) (changed count : ℕ)
    : Type 0 where
  pub schema : new.now.schema ≡ kept_schema
  pub rows : IsPermutation made (new.now.trees table.tree)
  pub shaped : IsShaped TableShape (new.now.trees table.tree)
  pub others : OthersStay old new kept_schema table.tree
  pub counted : count ≡ changed

-- the table's tree has one row more, whose rowid was free
pub record Adds (old new : State) (table : Table) (row : Row) (count : ℕ) : Type 0 where
  pub schema : new.now.schema ≡ kept_schema
  pub fresh : is_taken (old.now.trees table.tree) row ≡ false
  pub rows : IsPermutation (row ∷ old.now.trees table.tree) (new.now.trees table.tree)
  pub shaped : IsShaped TableShape (old.now.trees table.tree)
      → IsShaped TableShape (new.now.trees table.tree)
  pub others : OthersStay old new kept_schema table.tree
  pub counted : count ≡ 1

-- a transaction is begun on these tables
pub record IsBegun (s : State) (schema : Schema) : Type 0 where
  pub under_way : s.in_transaction ≡ true
  pub schema_is : s.now.schema ≡ schema

-- a table more stands in the transaction, without rows, and each other one has its rows
pub record Makes (old new : State) (before after : Schema) (tree : ℕ) : Type 0 where
  pub goes_on : IsBegun new after
  pub empty : new.now.trees tree ≡ []
  pub kept : AllByRecursion (λ (t : Table). new.now.trees t.tree ≡ old.now.trees t.tree)
      before.tables
  pub committed : new.committed ≡ old.committed

-- a refused statement changes nothing, or rolls the transaction back
abbrev pub LeavesOrRollsBack : State → State → Type 0
LeavesOrRollsBack old new = IsUnchanged old new ⊎ IsRolledBack old new

-- the transaction goes on, and what is committed is what was
pub record GoesOn (old new : State) : Type 0 where
  pub is_open : IsTrue new.is_open
  pub under_way : new.in_transaction ≡ true
  pub committed : new.committed ≡ old.committed
