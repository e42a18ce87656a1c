-- What calls make of the connection of a keeper, which may be lost.
use Rattle.std.specs.Prelude.{◌≡◌, true, List, Option, None, Some, Result}
use Rattle.fx_core.specs.declared.schema.Schema.{Schema}
use Rattle.sqlite.specs.Held.{Held}
use Rattle.sqlite.specs.State.{State}
use Rattle.row_keeper.specs.declared.keeper.KeeperEnd.{KeeperEnd}
use Rattle.row_changes.specs.declared.table.TableChanges.{TableChanges}
use Rattle.store_model.specs.Ends.{call_failed}
use Rattle.store_writing.specs.Writes.{WritesChanges}

-- the changes of a transaction are written; without a connection or a schema that fails
abbrev pub SeatWrites : {S T : Type 0} → (Held S → State) → Option (Held S) → Option (Held S)
    → Option Schema → List TableChanges → Result T KeeperEnd → Type 0
SeatWrites state (Some a) (Some b) (Some schema) cs r = WritesChanges (state a) (state b) schema cs
    r
SeatWrites state (Some a) (Some b) None cs r = (b ≡ a) × (call_failed r ≡ true)
SeatWrites state None None o cs r = call_failed r ≡ true
SeatWrites state (Some a) None o cs r = ⊥
SeatWrites state None (Some b) o cs r = ⊥
