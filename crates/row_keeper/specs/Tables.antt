-- The tables that are kept.
use Rattle.std.specs.Prelude.{ℕ, ◌+◌, ◌^◌, ◌<◌, ◌≤◌, ◌==◌, cond, List, [], ◌∷◌, ◌++◌, map, filter}
use Rattle.std.specs.Prelude.{set, length, sum_by, not, Bool, Option, Some, None, option_map}
use Rattle.std.specs.Prelude.{slice_get, unwrap_or}
use Rattle.std.specs.List.{All}
use Rattle.fx_types.specs.Values.{Data}
use Rattle.fx_core.specs.declared.schema.Column.{Column}
use Rattle.fx_core.specs.declared.schema.Schema.{Schema}
use Rattle.fx_core.specs.declared.schema.TableShape.{TableShape}
use Rattle.row_queries.specs.TableRows.{AreInIdOrder, IsRowOf}
use Rattle.row_queries.specs.declared.rows.Row.{Row}

-- a table: its rows by rising numbers, and the last number that it gave, 0 at first
pub record TableState : Type 0 where
  pub rows : List Row
  pub last : ℕ

-- the schema that is kept, if any, and its tables
pub record Tables : Type 0 where
  pub kept : Option Schema
  pub states : List TableState

-- the tables of a schema
abbrev pub shapes_of : Option Schema → List TableShape
shapes_of None = []
shapes_of (Some s) = s.tables

-- the columns of the table at this place
abbrev pub columns_in : Option TableShape → List Column
columns_in None = []
columns_in (Some t) = t.columns

abbrev pub columns_at : List TableShape → ℕ → List Column
columns_at shapes table = columns_in (slice_get shapes table)

-- no row, and no number given
abbrev pub no_rows : TableState
no_rows = record { rows = []; last = 0 }

-- the table at this place
abbrev pub state_at : List TableState → ℕ → TableState
state_at states table = unwrap_or (slice_get states table) no_rows

-- the rows of each table
abbrev pub rows_of_tables : List TableState → List (List Row)
rows_of_tables states = map (λ (s : TableState). s.rows) states

-- the rows of each table, where they are told
abbrev pub rows_told : Option Tables → Option (List (List Row))
rows_told told = option_map (λ (t : Tables). rows_of_tables t.states) told

-- how many rows all tables have
abbrev pub all_rows : List TableState → ℕ
all_rows states = sum_by (λ (s : TableState). length s.rows) states

-- the row has this number
abbrev pub has_id : ℕ → Row → Bool
has_id id r = r.id == id

-- with a row more, under the next number
abbrev pub with_row : List Data → TableState → TableState
with_row cells s = record {
  rows = s.rows ++ record { id = s.last + 1; cells = cells } ∷ [];
  last = s.last + 1;
}

-- with these cells in the row of this number
abbrev pub with_cells : ℕ → List Data → TableState → TableState
with_cells id cells s = record {
  rows = map (λ (r : Row). cond (has_id id r)
      (record { id = r.id; cells = cells }) r) s.rows;
  last = s.last;
}

-- without the row of this number; the number isn't given again
abbrev pub without_row : ℕ → TableState → TableState
without_row id s = record { rows = filter (λ r. not (has_id id r)) s.rows; last = s.last }

-- one table changed
abbrev pub with_state : Tables → ℕ → TableState → Tables
with_state t table s = record { kept = t.kept; states = set t.states table s }

-- a table for each of the schema: the one that is there, or one without rows
abbrev pub filled_tables : List TableShape → List TableState → List TableState
filled_tables [] states = []
filled_tables (t ∷ ts) [] = no_rows ∷ filled_tables ts []
filled_tables (t ∷ ts) (s ∷ ss) = s ∷ filled_tables ts ss

-- the rows fit the table, stand by rising numbers, and the last number that was given isn't below
-- any and has 32 bits
pub record IsStateOf (t : TableShape) (s : TableState) : Type 0 where
  pub fit : All (IsRowOf t) s.rows
  pub rising : AreInIdOrder s.rows
  pub given : All (λ (r : Row). r.id ≤ s.last) s.rows
  pub bounded : s.last < 2 ^ 32

-- each table is one of its shape
abbrev pub AreStatesOf : List TableShape → List TableState → Type 0
AreStatesOf [] [] = Unit {0}
AreStatesOf (t ∷ ts) (s ∷ ss) = IsStateOf t s × AreStatesOf ts ss
AreStatesOf ts ss = ⊥
