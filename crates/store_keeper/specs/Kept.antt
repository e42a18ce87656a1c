-- A keeper over a connection as a value.
use Rattle.std.specs.Prelude.{ℕ, Bool, List, None, Option, IfSome}
use Rattle.fx_core.specs.Lawful.{IsLawfulSchema}
use Rattle.fx_core.specs.declared.schema.Schema.{Schema}
use Rattle.sqlite.specs.Held.{Held}
use Rattle.sqlite.specs.State.{State}
use Rattle.row_changes.specs.declared.table.TableChanges.{TableChanges}
use Rattle.store_model.specs.Model.{Kept}
use Rattle.store_model.specs.Steady.{IsKept}
use Rattle.store_model.specs.declared.counts.RowCount.{RowCount}

-- a keeper whose tables have not moved
abbrev pub kept : {S : Type 0} → Option (Held S) → Bool → Option Schema → List TableChanges
    → List RowCount → Bool → ℕ → ℕ → Kept S
kept seat knows schema tables counts is_begun visited faults = record {
  seat = seat;
  knows = knows;
  schema = schema;
  tables = tables;
  counts = counts;
  moved = None;
  is_begun = is_begun;
  visited = visited;
  faults = faults;
}

-- what is true of a keeper at any time: its schema is a lawful one, and where it tells its tables it
-- is steady
pub record IsSound {S : Type 0} (state : Held S → State) (k : Kept S) : Type 0 where
  pub lawful : IfSome k.schema IsLawfulSchema
  pub kept : IsKept state k
