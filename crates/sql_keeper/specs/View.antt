-- What a keeper over SQLite is seen as.
use Rattle.std.specs.Prelude.{◌≡◌, ℕ, Bool, Option, Some, None}
use Rattle.fx_base.specs.Faults.{counted}
use Rattle.fx_base.specs.Silence.{Marks}
use Rattle.fx_core.specs.declared.schema.Schema.{Schema}
use Rattle.row_keeper.specs.Shaped.{Shaped}
use Rattle.row_keeper.specs.declared.keeper.KeeperEnd.{KeeperEnd}
use Rattle.row_keeper.specs.declared.keeper.KeeperEnd.TheVariants.{Memory as OutOfMemory, Failed}

-- The schema that it is shaped by, if any, now and as the transaction began, whether one is begun,
-- how many rows have been visited, and how many faults it counted. It tells nothing of what the
-- database keeps.
pub record SqlView : Type 0 where
  pub schema : Option Schema
  pub was : Option Schema
  pub is_begun : Bool
  pub visited : ℕ
  pub faults : ℕ

-- the schema as the transaction began: that which it had before the tables moved, or the one that
-- it has
abbrev pub schema_then : Option Schema → Option (Option Schema) → Option Schema
schema_then schema None = schema
schema_then schema (Some was) = was

-- what it is shaped by
abbrev pub sql_shape : SqlView → Shaped
sql_shape k = record { now = k.schema; then = k.was }

-- no doubt is told, since no tables are
abbrev pub sql_marks : SqlView → Marks
sql_marks k = record { faults = k.faults; doubt = 0 }

-- the faults after a call: one more exactly where it failed
abbrev pub faults_after : ℕ → Option KeeperEnd → ℕ
faults_after faults (Some Failed) = counted faults
faults_after faults (Some OutOfMemory) = faults
faults_after faults None = faults

-- a call has counted a fault exactly where it failed
abbrev pub CountsFailures : SqlView → SqlView → Option KeeperEnd → Type 0
CountsFailures k l end = l.faults ≡ faults_after k.faults end
