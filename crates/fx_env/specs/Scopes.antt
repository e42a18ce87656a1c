-- What a formula is evaluated in, and which typed trees are ready for it.
use Rattle.std.specs.Prelude.{◌≡◌, ℕ, Bool, true, false, List, [], map, Option, Some, None}
use Rattle.std.specs.Prelude.{option_map, IsSome}
use Rattle.fx_types.specs.declared.faults.Fault.{Fault}
use Rattle.fx_types.specs.declared.values.Value.{Value}
use Rattle.fx_types.specs.Types.{Shape}
use Rattle.fx_types.specs.Values.{Data}
use Rattle.fx_types.specs.ValueView.{view}
use Rattle.fx_core.specs.declared.sources.Source.{Source}
use Rattle.fx_semantics.specs.Around.{Around}
use Rattle.fx_semantics.specs.Sound.{AreFit, IsItemFit, IsLawfulTyping}
use Rattle.fx_semantics.specs.Sources.{Gives}
use Rattle.fx_core.specs.declared.schema.Schema.{Schema}
use Rattle.fx_core.specs.Term.{Term}
use Rattle.fx_typing.specs.Acts.{acts}
use Rattle.fx_typing.specs.WellTyped.{Context, IsTyped}

-- the rows and records of the scopes from the outside, the gallery's item if there is one, and the
-- error that was caught around, if one was
pub record ScopeValues : Type 0 where
  pub rows : List Data
  pub item : Option Data
  pub caught : Option Fault

-- what is held of these values
abbrev pub scope_values : List Value → Option Value → Option Fault → ScopeValues
scope_values rows item caught = record {
  rows = map view rows;
  item = option_map view item;
  caught = caught;
}

-- what an environment leaves as it is: the type of each source that may be read, the tables of the
-- app, how many rows a query may take that isn't delegated, the loans through which it uses objects
-- that are lent, if it does, and whether a transaction of such an object is begun
pub record Fixed : Type 0 where
  pub types : Source → Option Shape
  pub schema : Schema
  pub limit : ℕ
  pub loans : List (Option ℕ)
  pub in_transaction : Bool

-- the type that a value fits
abbrev pub fitted : Bool → Shape → Option Shape
fitted true t = Some t
fitted false t = None

-- where a formula stands, by the types of its sources and what is told of them
abbrev pub around : (Source → Option Shape) → Option (Source → Data) → ScopeValues → Around
around types told s = record {
  gives = Gives types told;
  rows = s.rows;
  item = s.item;
  caught = s.caught;
}

-- what a scope holds fits the context, in which no function of an app's own is left: what is
-- evaluated has no calls of them
pub record Suits (types : Source → Option Shape) (s : ScopeValues) (c : Context) : Type 0 where
  pub sources : c.sources ≡ types
  pub rows : AreFit s.rows c.rows
  pub item : IsItemFit s.item c.item
  pub caught : c.caught ≡ true → IsSome s.caught
  pub functions : c.functions ≡ []

-- the tree doesn't act, and has the type where it stands, by a typing in which the columns of all
-- types rise
pub record IsTypedHere (types : Source → Option Shape) (s : ScopeValues) (t : Term) (u : Shape) :
    Type 0 where
  pub context : Context
  pub suits : Suits types s context
  pub typed : IsTyped context t u
  pub lawful : IsLawfulTyping context t u typed
  pub quiet : acts t ≡ false

-- the same at some type
abbrev pub CanEvaluate : (Source → Option Shape) → ScopeValues → Term → Type 0
CanEvaluate types s t = (u : Shape) × IsTypedHere types s t u
