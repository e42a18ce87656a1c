-- What behaviour formulas read and change, and what they stand on.
use Rattle.std.specs.Prelude.{◌≡◌, ℕ, List, Option, Some}
use Rattle.fx_types.specs.Types.{Shape}
use Rattle.fx_types.specs.Values.{Data}
use Rattle.fx_core.specs.Reads.{IsAmong}
use Rattle.fx_core.specs.declared.schema.Schema.{Schema}
use Rattle.fx_core.specs.declared.sources.Source.{Source}
use Rattle.fx_env.specs.Scopes.{Fixed, ScopeValues}
use Rattle.fx_semantics.specs.Around.{Around}
use Rattle.row_keeper.specs.Tables.{Tables}
use Rattle.session_state.specs.Sessions.{SessionState}

-- what no change touches, as the formulas of cells and the moment; the tables, the session, and the
-- sources that were written
pub record WorldState (A : Type 0) : Type 0 where
  pub app : A
  pub tables : Tables
  pub session : SessionState
  pub wrote : List Source

-- what a source may give in a state
abbrev pub Giving : Type 0 → Type 1
Giving A = WorldState A → Source → Data → Type 0

-- the value that is told of each of these sources that has a type is one that it gives in the state
abbrev pub AreReady : {A : Type 0} → (Source → Option Shape) → Giving A → List Source
    → Option (WorldState A) → Option (Source → Data) → Type 0
AreReady {A} types gives reads state told =
    (s : WorldState A) (values : Source → Data) → state ≡ Some s → told ≡ Some values →
    (x : Source) (t : Shape) → IsAmong x reads → types x ≡ Some t → gives s x (values x)

-- the types of sources, the tables, and how many rows a query may take that isn't delegated
pub record EvalFrame : Type 0 where
  pub types : Source → Option Shape
  pub schema : Schema
  pub limit : ℕ

abbrev pub eval_frame : Fixed → EvalFrame
eval_frame f = record { types = f.types; schema = f.schema; limit = f.limit }

-- what sources give, and what stays
pub record Ground (A : Type 0) : Type 1 where
  pub gives : Giving A
  pub frame : EvalFrame

abbrev pub ground : {A : Type 0} → Giving A → Fixed → Ground A
ground gives fixed = record { gives = gives; frame = eval_frame fixed }

-- where a formula stands, over what is there now
abbrev pub acting_context : {A : Type 0} → Ground A → ScopeValues → WorldState A → Around
acting_context g h s = record { gives = g.gives s; rows = h.rows; item = h.item; caught = h.caught }
