-- The tables that a database stands for. Any rows of it are read, those too that no keeper has
-- written.
use Rattle.std.specs.Prelude.{ℕ, suc, ◌==◌, List, [], ◌∷◌, map, Option, option_map, unwrap_or}
use Rattle.std.specs.Map.{lookup}
use Rattle.fx_core.specs.declared.schema.Column.{Column}
use Rattle.fx_core.specs.declared.schema.Schema.{Schema}
use Rattle.fx_core.specs.declared.schema.TableShape.{TableShape}
use Rattle.sqlite.specs.Tree.{Trees}
use Rattle.sql_meanings.specs.Lasts.{LastsOf}
use Rattle.sql_meanings.specs.Lines.{LinesOf}
use Rattle.sql_contents.specs.Contents.{body_in, lasts_in, lines_in}
use Rattle.row_queries.specs.declared.rows.Row.{Row}
use Rattle.row_keeper.specs.Tables.{TableState, Tables, shapes_of}
use Rattle.row_lines.specs.FromBytes.{cells_in, schema_in}
use Rattle.row_changes.specs.Overlay.{last_of, overlay}
use Rattle.row_changes.specs.declared.table.TableChanges.{TableChanges}

-- the row of a line
abbrev pub row_in : List Column → ℕ × List ℕ → Row
row_in columns x = record { id = x.0; cells = cells_in columns x.1 }

-- a table with these lines, that has given this number last
abbrev pub state_in : List Column → LinesOf → ℕ → TableState
state_in columns lines last = record { rows = map (row_in columns) lines; last = last }

-- the last number that is kept of a table
abbrev pub last_in : LastsOf → ℕ → ℕ
last_in lasts tab = unwrap_or (lookup (λ n. n == tab) lasts) 0

-- the schema that is kept, if any
abbrev pub schema_kept : Trees → Option Schema
schema_kept trees = option_map schema_in (body_in trees)

-- tables as they are kept, from this place on
abbrev pub states_kept : Trees → ℕ → List TableShape → List TableState
states_kept trees tab [] = []
states_kept trees tab (t ∷ ts) = state_in t.columns (lines_in trees tab)
    (last_in (lasts_in trees) tab) ∷ states_kept trees (suc tab) ts

-- and as a transaction has made them; a keeper that isn't shaped yet has changed none
abbrev pub states_now : Trees → ℕ → List TableShape → List TableChanges → List TableState
states_now trees tab ts [] = states_kept trees tab ts
states_now trees tab [] (c ∷ cs) = []
states_now trees tab (t ∷ ts) (c ∷ cs) = state_in t.columns (overlay c (lines_in trees tab))
    (last_of c) ∷ states_now trees (suc tab) ts cs

-- the tables that are kept
abbrev pub tables_kept : Trees → Tables
tables_kept trees = record {
  kept = schema_kept trees;
  states = states_kept trees 0 (shapes_of (schema_kept trees));
}

-- the tables as a transaction has made them
abbrev pub tables_changed : Trees → List TableChanges → Tables
tables_changed trees cs = record {
  kept = schema_kept trees;
  states = states_now trees 0 (shapes_of (schema_kept trees)) cs;
}
