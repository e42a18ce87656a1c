-- What calls of a transaction make of the connection of a keeper, which may be lost, and of its
-- tables.
use Rattle.std.specs.Prelude.{◌≡◌, true, List, Option, None, Some, Result, IfOk, Vec, slice_get}
use Rattle.std.specs.declared.alloc.Global.{Global}
use Rattle.fx_core.specs.declared.schema.Schema.{Schema}
use Rattle.fx_core.specs.declared.schema.TableShape.{TableShape}
use Rattle.sqlite.specs.Held.{Held}
use Rattle.sqlite.specs.State.{State, HasCleanDisk}
use Rattle.sql_contents.specs.Contents.{contents_of}
use Rattle.row_queries.specs.Queries.{AreAsked}
use Rattle.row_queries.specs.TableRows.{AreHeldRows}
use Rattle.row_queries.specs.declared.queries.Query.{Query}
use Rattle.row_queries.specs.declared.rows.Row.{Row}
use Rattle.row_keeper.specs.Tables.{Tables, state_at}
use Rattle.row_keeper.specs.declared.keeper.KeeperEnd.{KeeperEnd}
use Rattle.row_changes.specs.declared.table.TableChanges.{TableChanges}
use Rattle.store_model.specs.Decoded.{tables_changed}
use Rattle.store_model.specs.Ends.{call_failed}
use Rattle.store_model.specs.Steady.{IsAtRest, IsShapedSo}
use Rattle.store_model.specs.declared.counts.RowCount.{RowCount}
use Rattle.store_asking.specs.Asked.{StaysAtRest}
use Rattle.store_rows.specs.Puts.{AreKnown, GoTold}

-- a call in a transaction reads the connection, and the tables go so
pub record StateActs {T : Type 0} (old new : State) (schema : Schema) (cs ds : List TableChanges)
    (ns ms : List RowCount) (Goes : T → Tables → Tables → Type 0) (r : Result T KeeperEnd)
    : Type 0 where
  pub stays : StaysAtRest old new (call_failed r)
  pub told : HasCleanDisk new → IsAtRest old → AreKnown old.now.trees schema cs ns
      → GoTold old.now.trees schema cs ds ms Goes r

abbrev pub SeatActs : {S T : Type 0} → (Held S → State) → Option (Held S) → Option (Held S)
    → Option Schema → List TableChanges → List TableChanges → List RowCount → List RowCount
    → (T → Tables → Tables → Type 0) → Result T KeeperEnd → Type 0
SeatActs state (Some a) (Some b) (Some schema) cs ds ns ms Goes r = StateActs (state a) (state b)
    schema cs ds ns ms Goes r
SeatActs state (Some a) (Some b) None cs ds ns ms Goes r = (b ≡ a) × (call_failed r ≡ true)
SeatActs state None None o cs ds ns ms Goes r = call_failed r ≡ true
SeatActs state (Some a) None o cs ds ns ms Goes r = ⊥
SeatActs state None (Some b) o cs ds ns ms Goes r = ⊥

-- a query asks rows of its table: ones that it can hold, which are those that are told where the
-- database is in order
pub record StateAsks (old new : State) (schema : Schema) (cs : List TableChanges) (q : Query)
    (r : Result (Vec Row Global) KeeperEnd) : Type 0 where
  pub stays : StaysAtRest old new (call_failed r)
  pub asked : IfOk r (λ rows. (t : TableShape) × (held : List Row)
      × (slice_get schema.tables q.table ≡ Some t) × AreHeldRows t held × AreAsked q held rows.items
      × (HasCleanDisk new → IsAtRest old → IsShapedSo (contents_of old.now.trees) schema cs
      → held ≡ (state_at (tables_changed old.now.trees cs).states q.table).rows))

abbrev pub SeatAsks : {S : Type 0} → (Held S → State) → Option (Held S) → Option (Held S)
    → Option Schema → List TableChanges → Query → Result (Vec Row Global) KeeperEnd → Type 0
SeatAsks state (Some a) (Some b) (Some schema) cs q r = StateAsks (state a) (state b) schema cs q r
SeatAsks state (Some a) (Some b) None cs q r = (b ≡ a) × (call_failed r ≡ true)
SeatAsks state None None o cs q r = call_failed r ≡ true
SeatAsks state (Some a) None o cs q r = ⊥
SeatAsks state None (Some b) o cs q r = ⊥
