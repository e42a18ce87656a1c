-- What a formula reads: the types and values of the sources that stand in it.
use Rattle.std.specs.Prelude.{ℕ, List, [], ◌∷◌, Bool, true, false, ◌&&◌, nat_eq, Option, Some, None}
use Rattle.std.specs.Prelude.{slice_index_or}
use Rattle.std.specs.List.{list_any}
use Rattle.app_semantics.specs.Telling.{told_on}
use Rattle.fx_types.specs.Types.{Shape}
use Rattle.fx_types.specs.Values.{Data, blank}
use Rattle.fx_env.specs.Scopes.{Fixed, fitted}
use Rattle.fx_env.specs.Telling.{EnvState}
use Rattle.fx_core.specs.Reads.{source_number, source_rank}
use Rattle.fx_core.specs.SourceTypes.{sources, table_type}
use Rattle.fx_core.specs.declared.names.Names.{Names}
use Rattle.fx_core.specs.declared.schema.Schema.{Schema}
use Rattle.fx_core.specs.declared.sources.Source.{Source}
use Rattle.fx_core.specs.declared.sources.Source.TheVariants as source
use Rattle.fx_value.specs.Fits.{fits_in}
use Rattle.row_keeper.specs.Tables.{Tables, rows_of_tables}
use Rattle.session_state.specs.Sessions.{SessionState}

-- the value of a cell by its number
abbrev pub cell_value : List Data → ℕ → Data
cell_value values k = slice_index_or values k blank

-- one source is another, and is among these
abbrev pub is_source : Source → Source → Bool
is_source x y = nat_eq (source_rank x) (source_rank y) && nat_eq (source_number x) (source_number y)

abbrev pub is_source_among : Source → List Source → Bool
is_source_among x reads = list_any (is_source x) reads

-- a source that is read has its type, where its value fits that
abbrev pub type_by : Bool → Option Shape → Data → Option Shape
type_by true (Some t) d = fitted (fits_in d t) t
type_by read t d = None

-- the types of the sources that are read, but for tables
abbrev pub types_on : Names → List Source → (Source → Data) → Source → Option Shape
types_on n reads told (source.Table k) = None
types_on n reads told x = type_by (is_source_among x reads) (sources n x) (told x)

abbrev pub fixed_on : Names → List Source → (Source → Data) → Schema → ℕ → Fixed
fixed_on n reads told schema limit = record {
  types = types_on n reads told;
  schema = schema;
  limit = limit;
  loans = [];
  in_transaction = false;
}

-- values alone are told
abbrev pub told_values : (Source → Data) → EnvState (Unit {0})
told_values told = record { values = told; tables = []; beside = tt }

-- what sources are worth on this day, where cells have these values; of tables nothing is told
abbrev pub told_by : Data → Names → SessionState → List Data → Source → Data
told_by day n s values = told_on day n s None (cell_value values)

-- ---- over tables

-- the types of the sources that are read, and of all tables
abbrev pub types_over : Names → List Source → (Source → Data) → Source → Option Shape
types_over n reads told (source.Table k) = table_type n.schema k
types_over n reads told x = types_on n reads told x

-- the loan through which a keeper is used, and the one through which that keeper uses another, if
-- it does
abbrev pub loans_of : ℕ → Option ℕ → List (Option ℕ)
loans_of name loan = Some name ∷ loan ∷ []

abbrev pub fixed_over : Names → List Source → (Source → Data) → ℕ → List (Option ℕ) → Bool → Fixed
fixed_over n reads told limit loans in_transaction =
    record {
      types = types_over n reads told;
      schema = n.schema;
      limit = limit;
      loans = loans;
      in_transaction = in_transaction;
    }

-- all that a keeper tells: its tables, and what they were as its transaction began
abbrev pub KeeperState : Type 0
KeeperState = Tables × Option Tables

-- the values of sources, tables among them, the rows of tables, and all that a keeper tells
abbrev pub told_over : Data → Names → SessionState → List Data → Option Tables → Tables
    → EnvState KeeperState
told_over day n s values began t = record {
  values = told_on day n s
      (Some (rows_of_tables t.states)) (cell_value values);
  tables = rows_of_tables t.states;
  beside
      = (t, began);
}
