-- Which tables are written.
use Rattle.std.specs.Prelude.{◌≡◌, ℕ, List, Option, option_map, Ok}
use Rattle.std.specs.List.{filter_map}
use Rattle.fx_core.specs.Reads.{IsAmong}
use Rattle.fx_core.specs.declared.schema.TableShape.{TableShape}
use Rattle.fx_core.specs.declared.sources.Source.{Source}
use Rattle.fx_core.specs.declared.sources.Source.TheVariants.{Table}
use Rattle.row_keeper.specs.Tables.{Tables, state_at}
use Rattle.session_state.specs.Once.{LastRequest}
use Rattle.numbered_requests.specs.declared.directory.Named.{Named}
use Rattle.row_requests.specs.Changes.{table_index, table_changed}
use Rattle.row_requests.specs.DeskRows.{desk_checks}
use Rattle.row_requests.specs.declared.bodies.Change.{Change}
use Rattle.row_requests.specs.declared.bodies.Posted.{Posted}

-- the table that a change names, if there is one of this name
abbrev pub changed_table : List TableShape → Change → Option Source
changed_table shapes c = option_map Table (table_index (table_changed c) shapes)

-- the tables that changes name
abbrev pub tables_named : List TableShape → List Change → List Source
tables_named shapes changes = filter_map (changed_table shapes) changes

-- posted rows that pass the checks name this table
pub record IsNamedBy (shapes : List TableShape) (desks : List (Named LastRequest))
    (name body : List ℕ) (s : Source) : Type 0 where
  pub posted : Posted
  pub checked : desk_checks desks name body ≡ Ok posted
  pub named : IsAmong s (tables_named shapes posted.changes)

-- the same tables, but for those that are among these
abbrev pub SameTablesExcept : List Source → Tables → Tables → Type 0
SameTablesExcept xs t u = (k : ℕ) → (IsAmong (Table k) xs → ⊥)
    → state_at u.states k ≡ state_at t.states k
