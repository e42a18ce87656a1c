-- The values of sources at a day.
use Rattle.std.specs.Prelude.{ℕ, List, Option, Some, slice_get}
use Rattle.app_semantics.specs.Present.{input_of, selected_of}
use Rattle.fx_types.specs.Values.{Data, blank}
use Rattle.fx_core.specs.declared.names.Names.{Names}
use Rattle.fx_core.specs.declared.schema.TableShape.{TableShape}
use Rattle.fx_core.specs.declared.sources.Source.{Source}
use Rattle.fx_core.specs.declared.sources.Source.TheVariants as source
use Rattle.row_queries.specs.TableRows.{rows_at, rows_table}
use Rattle.row_queries.specs.declared.rows.Row.{Row}
use Rattle.session_state.specs.Sessions.{SessionState, stored_value}

-- the value of a table by its number, which has this shape; blank where there is no table, or no
-- rows are told
abbrev pub table_told : Option TableShape → Option (List (List Row)) → ℕ → Data
table_told (Some t) (Some tables) k = rows_table t (rows_at tables k)
table_told t tables k = blank

-- the value of each source where cells have these values and tables these rows, on this day
abbrev pub told_on : Data → Names → SessionState → Option (List (List Row)) → (ℕ → Data) → Source
    → Data
told_on day n s tables values (source.Cell k) = values k
told_on day n s tables values (source.Global k) = stored_value s (source.Global k)
told_on day n s tables values (source.Context k) = stored_value s (source.Context k)
told_on day n s tables values (source.Gathered k) = stored_value s (source.Gathered k)
told_on day n s tables values (source.Input k) = input_of n s values k
told_on day n s tables values (source.Chosen k) = selected_of n s values k
told_on day n s tables values (source.Table k) = table_told (slice_get n.schema.tables k) tables k
told_on day n s tables values source.Today = day
