-- What a session holds, and what tables do, fits the types that the names of their app give.
use Rattle.std.specs.Prelude.{◌≡◌, ℕ, true, List, Option, Some, None, slice_get}
use Rattle.std.specs.List.{All}
use Rattle.fx_types.specs.Types.{Shape}
use Rattle.fx_core.specs.SourceTypes.{sources}
use Rattle.fx_core.specs.declared.names.Names.{Names}
use Rattle.fx_core.specs.declared.schema.Schema.{Schema}
use Rattle.fx_core.specs.declared.schema.TableShape.{TableShape}
use Rattle.fx_core.specs.declared.sources.Source.{Source}
use Rattle.fx_value.specs.Fits.{fits_in}
use Rattle.row_queries.specs.TableRows.{IsRowOf, rows_at}
use Rattle.row_queries.specs.declared.rows.Row.{Row}
use Rattle.session_state.specs.Changes.{FitsNames, IsOwn}
use Rattle.session_state.specs.Sessions.{Holds, SessionState, stored_value}

-- each source that is a session's own and has a type is held, with a value that fits it
pub record HoldsFitting (n : Names) (s : SessionState) : Type 0 where
  pub sources_held : (x : Source) (t : Shape) → IsOwn x → sources n x ≡ Some t → Holds s x
  pub values_fit : (x : Source) (t : Shape) → IsOwn x → sources n x ≡ Some t
      → fits_in (stored_value s x) t ≡ true

-- where rows are told, those of each table fit it
abbrev pub HoldRows : Schema → Option (List (List Row)) → Type 0
HoldRows schema None = Unit {0}
HoldRows schema (Some tables) = (k : ℕ) (t : TableShape) → slice_get schema.tables k ≡ Some t
    → All (IsRowOf t) (rows_at tables k)

-- a session that fits an app's names holds what fits them
abbrev pub FittingHolds : Type 0
FittingHolds = (n : Names) (s : SessionState) → FitsNames n s → HoldsFitting n s
