-- What a session tells over the rows of a keeper.
use Rattle.std.specs.Prelude.{◌≡◌, ℕ, ◌∷◌, List, [], Bool, true, false, Option, Some, None}
use Rattle.fx_types.specs.Types.{Shape}
use Rattle.fx_types.specs.Values.{Data}
use Rattle.fx_deeds.specs.State.{WorldState}
use Rattle.fx_env.specs.Scopes.{Fixed}
use Rattle.fx_env.specs.Telling.{EnvState}
use Rattle.fx_scalar.specs.ScalarFunctions.{IsToday}
use Rattle.fx_core.specs.SourceTypes.{sources}
use Rattle.fx_core.specs.declared.sources.Source.{Source}
use Rattle.fx_core.specs.declared.sources.Source.TheVariants as source
use Rattle.fx_value.specs.Fits.{fits_in}
use Rattle.recalc.specs.app_semantics.Telling.{told_on}
use Rattle.recalc.specs.app_cells.declared.app.App.{App}
use Rattle.recalc.specs.Reading.{cell_value}
use Rattle.recalc.specs.Values.{CellsFit}
use Rattle.row_keeper.specs.Tables.{Tables, rows_of_tables}
use Rattle.row_keeper.specs.declared.rows.Put.{Put}
use Rattle.row_keeper.specs.declared.rows.Put.TheVariants.{Id}
use Rattle.session_state.specs.Changes.{FitsNames}
use Rattle.session_state.specs.Sessions.{SessionState}
use Rattle.session_requests.specs.WorldIdentity.{WorldIdentity, identity_code}
use Rattle.session_requests.specs.WorldContext.{WorldContext, state_on}

abbrev pub IsNoTableSource : Source → Type 0
IsNoTableSource x = (k : ℕ) → x ≡ source.Table k → ⊥

-- what a source that is no table is worth fits its type, where what is held and the values of cells
-- fit
abbrev pub FitsAll : App → Type 0
FitsAll a =
    (s : SessionState) (moment : ℕ) (day : Data) (values : List Data) (x : Source) (t : Shape)
    → FitsNames a.names s → CellsFit a (cell_value values) → ∥ IsToday moment day ∥₁ →
    IsNoTableSource x → sources a.names x ≡ Some t
    → fits_in (told_on day a.names s None (cell_value values) x) t ≡ true

-- What no call changes. Beside the loans of session, cache, keeper and list of writes stands all on
-- which the performing does.
abbrev pub fixed_in : WorldIdentity → ℕ → ℕ → ℕ → ℕ → Option ℕ → Bool → Fixed
fixed_in h session cache keeper wrote loan in_transaction = record {
  types = sources h.app.names;
  schema = h.app.names.schema;
  limit = h.app.limit;
  loans = Some session ∷ Some cache ∷ Some keeper ∷ Some wrote ∷ loan ∷ identity_code h;
  in_transaction = in_transaction;
}

-- on this day, where cells have these values
abbrev pub told_in : Data → WorldContext → SessionState → List Data → List Source → Tables
    → EnvState (WorldState WorldContext)
told_in day g s values wrote t = record {
  values = told_on day g.app.names s (Some (rows_of_tables t.states)) (cell_value values);
  tables = rows_of_tables t.states;
  beside = state_on g t s wrote;
}

-- the table of a row that was kept
abbrev pub written_by : Put → ℕ → List Source
written_by (Id n) k = source.Table k ∷ []
written_by p k = []

-- where it was done
abbrev pub source_if_done : Bool → Option Source → Option Source
source_if_done true o = o
source_if_done false o = None
