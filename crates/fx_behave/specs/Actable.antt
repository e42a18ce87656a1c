-- Which typed trees can be performed.
use Rattle.std.specs.Prelude.{◌≡◌, ℕ, List, [], ◌∷◌, true}
use Rattle.fx_types.specs.declared.faults.Kind.{Kind}
use Rattle.fx_types.specs.Types.{Shape}
use Rattle.fx_types.specs.Values.{Data}
use Rattle.fx_eval.specs.Parts.{IsComparable, caught_in, inner}
use Rattle.fx_env.specs.Scopes.{ScopeValues, Suits}
use Rattle.fx_semantics.specs.Around.{record_of}
use Rattle.fx_semantics.specs.Sound.{IsLawfulTyping}
use Rattle.fx_value.specs.Columns.{Row}
use Rattle.fx_core.specs.Term.{Term}
use Rattle.fx_typing.specs.WellTyped.{Context, IsTyped}
use Rattle.fx_typing.specs.Ways.{is_comparable}
use Rattle.fx_deeds.specs.Fitting.{SourceTypes}
pub use Rattle.fx_semantics.specs.Places.{IsPlaced}

-- ---- trees

-- the tree has the type where it stands, by a typing in which the columns of all types rise, and
-- what acts in it acts in its place
pub record IsActable (types : SourceTypes) (s : ScopeValues) (t : Term) (u : Shape) : Type 0 where
  pub context : Context
  pub suits : Suits types s context
  pub typed : IsTyped context t u
  pub lawful : IsLawfulTyping context t u typed
  pub placed : IsPlaced t

-- the same at some type
abbrev pub CanAct : SourceTypes → ScopeValues → Term → Type 0
CanAct types s t = (u : Shape) × IsActable types s t u

-- ---- parts

-- parts of these types
abbrev pub AreActable : SourceTypes → ScopeValues → List Shape → List Term → Type 0
AreActable types s [] [] = Unit {0}
AreActable types s (u ∷ us) (t ∷ ts) = IsActable types s t u × AreActable types s us ts
AreActable types s us ts = ⊥

-- parts of which the last one has the type
abbrev pub LastHasType : SourceTypes → ScopeValues → Shape → List Term → Type 0
LastHasType types s u [] = ⊥
LastHasType types s u (t ∷ []) = IsActable types s t u
LastHasType types s u (t ∷ k ∷ ts) = CanAct types s t × LastHasType types s u (k ∷ ts)

-- conditions, and branches of the type
abbrev pub AreActingBranches : SourceTypes → ScopeValues → Shape → List Term → Type 0
AreActingBranches types s u [] = Unit {0}
AreActingBranches types s u (t ∷ []) = IsActable types s t u
AreActingBranches types s u (c ∷ t ∷ ts) = CanAct types s c × IsActable types s t u
    × AreActingBranches types s u ts

-- a match of a type that is compared with this one
abbrev pub IsActingMatch : SourceTypes → ScopeValues → Shape → Term → Type 0
IsActingMatch types s k t = (q : Shape) × IsActable types s t q × (is_comparable k q ≡ true)

-- matches, and branches of the type
abbrev pub AreActingMatches : SourceTypes → ScopeValues → Shape → Shape → List Term → Type 0
AreActingMatches types s k u [] = Unit {0}
AreActingMatches types s k u (t ∷ []) = IsActable types s t u
AreActingMatches types s k u (m ∷ t ∷ ts) = IsActingMatch types s k m × IsActable types s t u
    × AreActingMatches types s k u ts

-- the same for a value that is compared with the matches
abbrev pub IsMatchedBy : SourceTypes → ScopeValues → Data → Shape → List Term → Type 0
IsMatchedBy types s w u ts = (k : Shape) × IsComparable w k × AreActingMatches types s k u ts

-- the value that is compared, before its matches
abbrev pub IsActingSwitch : SourceTypes → ScopeValues → Shape → List Term → Type 0
IsActingSwitch types s u [] = ⊥
IsActingSwitch types s u (t ∷ ts) = (k : Shape) × IsActable types s t k
    × AreActingMatches types s k u ts

-- a fallback, where any error was caught
abbrev pub IsActingFallback : SourceTypes → ScopeValues → Shape → Term → Type 0
IsActingFallback types s u t = (k : Kind) (cs : List ℕ) → IsActable types (caught_in s k cs) t u

-- values of the type, each before its fallback
abbrev pub AreActingRecoveries : SourceTypes → ScopeValues → Shape → List Term → Type 0
AreActingRecoveries types s u [] = Unit {0}
AreActingRecoveries types s u (t ∷ []) = IsActable types s t u
AreActingRecoveries types s u (t ∷ f ∷ ts) = IsActable types s t u × IsActingFallback types s u f
    × AreActingRecoveries types s u ts

-- a formula in the scope of each of these rows
abbrev pub IsActableInside : SourceTypes → ScopeValues → Shape → Term → List Row → Type 0
IsActableInside types s u f [] = Unit {0}
IsActableInside types s u f (r ∷ rs) = IsActable types (inner s (record_of r)) f u
    × IsActableInside types s u f rs

-- there are two parts
abbrev pub AreTwo : List Term → Type 0
AreTwo (t ∷ f ∷ []) = Unit {0}
AreTwo ts = ⊥
