-- What a store of tables is seen as.
use Rattle.std.specs.Prelude.{Bool, false, List, [], Option, None}
use Rattle.fx_core.specs.declared.schema.Schema.{Schema}
use Rattle.row_keeper.specs.Shaped.{Shaped}
use Rattle.row_keeper.specs.Tables.{TableState, Tables}

-- the schema that is kept, if any, now and as the transaction began, its tables at both times, and
-- whether one is begun
pub record StoreView : Type 0 where
  pub schema : Option Schema
  pub was : Option Schema
  pub now : List TableState
  pub then : List TableState
  pub is_begun : Bool

-- no schema, and no transaction
abbrev pub no_store : StoreView
no_store = record { schema = None; was = None; now = []; then = []; is_begun = false }

-- its tables, now and as the transaction began
abbrev pub tables_now : StoreView → Tables
tables_now s = record { kept = s.schema; states = s.now }

abbrev pub tables_then : StoreView → Tables
tables_then s = record { kept = s.was; states = s.then }

-- what it is shaped by
abbrev pub shape_of : StoreView → Shaped
shape_of s = record { now = s.schema; then = s.was }
