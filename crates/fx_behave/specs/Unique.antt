-- What holds of all performings: a tree has one at most, and it writes all that it changes.
use Rattle.std.specs.Prelude.{◌≡◌}
use Rattle.fx_types.specs.Values.{Data}
use Rattle.fx_env.specs.Scopes.{ScopeValues}
use Rattle.fx_core.specs.declared.sources.Source.{Source}
use Rattle.fx_core.specs.Term.{Term}
use Rattle.fx_behave.specs.Perform.{Performs}
use Rattle.fx_deeds.specs.State.{EvalFrame, Giving, WorldState}
use Rattle.fx_deeds.specs.Within.{Within}

-- each source gives one value at most in a state
abbrev pub GivesOne : {A : Type 0} → Giving A → Type 0
GivesOne {A} gives = (s : WorldState A) (x : Source) (v w : Data) → gives s x v → gives s x w
    → v ≡ w

-- over sources that give one value each a tree has one performing at most: one value, and one state
-- that it leaves
abbrev pub OnePerforming : {A : Type 0} → Giving A → Type 0
OnePerforming {A} gives =
    (f : EvalFrame) → GivesOne gives → (c : Term) (h : ScopeValues) (x y : Data)
    (s t u : WorldState A) →
    Performs (record { gives = gives; frame = f }) c h x s t
    → Performs (record { gives = gives; frame = f }) c h y s u → (x ≡ y) × (t ≡ u)

-- what a performing leaves is as it was, but for the sources that it writes
abbrev pub PerformingsWrite : {A : Type 0} → Giving A → Type 0
PerformingsWrite {A} gives = (f : EvalFrame) (c : Term) (h : ScopeValues) (x : Data)
    (s t : WorldState A) → Performs (record { gives = gives; frame = f }) c h x s t → Within s t
