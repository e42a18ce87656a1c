-- What a keeper over a connection is seen as, and what it tells.
use Rattle.std.specs.Prelude.{ℕ, ◌&&◌, Bool, List, [], ◌∷◌, Option, None, Some}
use Rattle.std.specs.Prelude.{if◌then◌else◌, option_map}
use Rattle.fx_base.specs.Silence.{Marks}
use Rattle.fx_core.specs.declared.schema.Schema.{Schema}
use Rattle.sqlite.specs.Held.{Held}
use Rattle.sqlite.specs.State.{State}
use Rattle.sqlite.specs.Tree.{Trees}
use Rattle.sqlite_trees.specs.View.{doubt}
use Rattle.row_keeper.specs.Shaped.{Shaped}
use Rattle.row_keeper.specs.StoreView.{StoreView, tables_now}
use Rattle.row_keeper.specs.Tables.{Tables}
use Rattle.row_changes.specs.declared.table.TableChanges.{TableChanges}
use Rattle.store_model.specs.Decoded.{tables_changed, tables_kept}
use Rattle.store_model.specs.declared.counts.RowCount.{RowCount}

pub record Kept (S : Type 0) : Type 0 where
  -- the connection, unless a fault has lost it
  pub seat : Option (Held S)
  -- whether it knows the tables of the database: they were made, or looked through, and no call has
  -- failed since
  pub knows : Bool
  -- the schema that it is shaped by, if any
  pub schema : Option Schema
  -- what the transaction has made of each table, and how many rows each has
  pub tables : List TableChanges
  pub counts : List RowCount
  -- the tables that the transaction has moved to another schema, if it has
  pub moved : Option StoreView
  pub is_begun : Bool
  pub visited : ℕ
  pub faults : ℕ

-- it tells while the disk has given back what it was given
abbrev pub tells : State → Bool → Bool
tells s knows = knows && s.is_clean

abbrev pub tables_in : Option StoreView → Trees → List TableChanges → Tables
tables_in None trees cs = tables_changed trees cs
tables_in (Some moved) trees cs = tables_now moved

-- the tables now, and as the transaction began, over a connection in this state
abbrev pub told_at : {S : Type 0} → State → Kept S → Option Tables
told_at s k = if tells s k.knows then Some (tables_in k.moved s.now.trees k.tables) else None

abbrev pub began_at : {S : Type 0} → State → Kept S → Option Tables
began_at s k = if tells s k.knows then Some (tables_kept s.now.trees) else None

-- without a connection nothing is told
abbrev pub over_seat : {S A : Type 0} → (Held S → State) → (State → Option A) → Option (Held S)
    → Option A
over_seat state f None = None
over_seat state f (Some conn) = f (state conn)

-- where connections are in these states
abbrev pub told_of : {S : Type 0} → (Held S → State) → Kept S → Option Tables
told_of state k = over_seat state (λ s. told_at s k) k.seat

abbrev pub began_of : {S : Type 0} → (Held S → State) → Kept S → Option Tables
began_of state k = over_seat state (λ s. began_at s k) k.seat

-- a crash leaves what is kept, and nothing else
abbrev pub leaves_of : {S : Type 0} → (Held S → State) → Kept S → Option (List Tables)
leaves_of state k = option_map (λ t. t ∷ []) (began_of state k)

-- whether the disk of the connection once gave back something else than it was given; where the
-- connection was lost nobody knows
abbrev pub doubt_of : {S : Type 0} → (Held S → State) → Option (Held S) → ℕ
doubt_of state None = 1
doubt_of state (Some conn) = doubt (state conn).is_clean

abbrev pub marks_of : {S : Type 0} → (Held S → State) → Kept S → Marks
marks_of state k = record { faults = k.faults; doubt = doubt_of state k.seat }

-- the schema that it is shaped by now, where tables may have moved
abbrev pub schema_in : Option StoreView → Option Schema → Option Schema
schema_in None schema = schema
schema_in (Some moved) schema = moved.schema

abbrev pub shape_of : {S : Type 0} → Kept S → Shaped
shape_of k = record { now = schema_in k.moved k.schema; then = k.schema }
