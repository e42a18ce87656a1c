-- Which parts of a form are ready, by where the form stands before them.
use Rattle.std.specs.Prelude.{◌≡◌, ℕ, suc, true, List, [], ◌∷◌, ◌++◌, Option, Some}
use Rattle.fx_types.specs.declared.faults.Kind.{Kind}
use Rattle.fx_types.specs.Types.{Shape, booleans}
use Rattle.fx_types.specs.Values.{Data, fault}
use Rattle.fx_eval.specs.Courses.{Going, all, any, branches, switch, matches, recovers, coalesces}
use Rattle.fx_env.specs.Scopes.{ScopeValues, IsTypedHere, CanEvaluate}
use Rattle.fx_semantics.specs.Around.{Around, record_of}
use Rattle.fx_semantics.specs.Fresh.{IsValue}
use Rattle.fx_core.specs.declared.functions.Fun.{Fun}
use Rattle.fx_core.specs.declared.sources.Source.{Source}
use Rattle.fx_value.specs.Columns.{Row}
use Rattle.fx_core.specs.Term.{Term, over}
use Rattle.fx_typing.specs.WellTyped.{PartScope, plain, inside, bound, catching, standing_at}
use Rattle.fx_typing.specs.Ways.{is_comparable}
use Rattle.fx_value.specs.Fits.{fits_in}

-- the formulas of fields
abbrev pub terms_of : List (List ℕ × Term) → List Term
terms_of [] = []
terms_of (f ∷ fs) = f.1 ∷ terms_of fs

-- fields, each with the name and the value of its formula
abbrev pub AreFilled : List (List ℕ × Term) → Around → List (List ℕ × Data) → Type 0
AreFilled [] a [] = Unit {0}
AreFilled (f ∷ fs) a (d ∷ ds) = (d.0 ≡ f.0) × IsValue a f.1 d.1 × AreFilled fs a ds
AreFilled fs a ds = ⊥

-- one more scope
abbrev pub inner : ScopeValues → Data → ScopeValues
inner s d = record s { rows = s.rows ++ d ∷ [] }

-- the same where an error was caught
abbrev pub caught_in : ScopeValues → Kind → List ℕ → ScopeValues
caught_in s k cs = record s { caught = Some (record { kind = k; message = cs }) }

abbrev pub AreFine : (Source → Option Shape) → ScopeValues → List Term → Type 0
AreFine types s [] = Unit {0}
AreFine types s (t ∷ ts) = CanEvaluate types s t × AreFine types s ts

abbrev pub AreConditions : (Source → Option Shape) → ScopeValues → List Term → Type 0
AreConditions types s [] = Unit {0}
AreConditions types s (t ∷ ts) = IsTypedHere types s t booleans × AreConditions types s ts

abbrev pub AreBranches : (Source → Option Shape) → ScopeValues → List Term → Type 0
AreBranches types s [] = Unit {0}
AreBranches types s (t ∷ []) = CanEvaluate types s t
AreBranches types s (c ∷ t ∷ ts) = IsTypedHere types s c booleans × CanEvaluate types s t
    × AreBranches types s ts

-- a match of a type that is compared with this one
abbrev pub IsMatch : (Source → Option Shape) → ScopeValues → Shape → Term → Type 0
IsMatch types s u t = (k : Shape) × IsTypedHere types s t k × (is_comparable u k ≡ true)

abbrev pub AreMatches : (Source → Option Shape) → ScopeValues → Shape → List Term → Type 0
AreMatches types s u [] = Unit {0}
AreMatches types s u (t ∷ []) = CanEvaluate types s t
AreMatches types s u (m ∷ t ∷ ts) = IsMatch types s u m × CanEvaluate types s t
    × AreMatches types s u ts

-- a fallback is ready where any error was caught
abbrev pub IsFallback : (Source → Option Shape) → ScopeValues → Term → Type 0
IsFallback types s t = (k : Kind) (cs : List ℕ) → CanEvaluate types (caught_in s k cs) t

abbrev pub AreRecoveries : (Source → Option Shape) → ScopeValues → List Term → Type 0
AreRecoveries types s [] = Unit {0}
AreRecoveries types s (t ∷ []) = CanEvaluate types s t
AreRecoveries types s (t ∷ f ∷ ts) = CanEvaluate types s t × IsFallback types s f
    × AreRecoveries types s ts

-- a value that matches may be compared with
abbrev pub IsComparable : Data → Shape → Type 0
IsComparable (fault k cs) u = ⊥
IsComparable w u = fits_in w u ≡ true

-- the value that is compared, before its matches
abbrev pub IsSwitched : (Source → Option Shape) → ScopeValues → List Term → Type 0
IsSwitched types s [] = ⊥
IsSwitched types s (t ∷ ts) = (u : Shape) × IsTypedHere types s t u × AreMatches types s u ts

abbrev pub AreSet : (Source → Option Shape) → ScopeValues → Going → List Term → Type 0
AreSet types s all = AreConditions types s
AreSet types s any = AreConditions types s
AreSet types s branches = AreBranches types s
AreSet types s switch = IsSwitched types s
AreSet types s (matches w) = λ ts. (u : Shape) × IsComparable w u × AreMatches types s u ts
AreSet types s (recovers w) = AreRecoveries types s
AreSet types s coalesces = AreFine types s

abbrev pub AreSome : List Term → Type 0
AreSome [] = ⊥
AreSome ts = Unit {0}

-- a part behind which these stand isn't the last of a form that ends in a branch
abbrev pub HasNext : Going → List Term → Type 0
HasNext branches [] = ⊥
HasNext (matches w) [] = ⊥
HasNext (recovers w) [] = ⊥
HasNext g ts = Unit {0}

-- a formula is ready in the scope of each of these rows
abbrev pub AreInside : (Source → Option Shape) → ScopeValues → Term → List Row → Type 0
AreInside types s t [] = Unit {0}
AreInside types s t (r ∷ rs) = CanEvaluate types (inner s (record_of r)) t × AreInside types s t rs

-- a part of a call over these rows is ready where it stands
abbrev pub IsPartReady : PartScope → (Source → Option Shape) → ScopeValues → List Row → Term
    → Type 0
IsPartReady inside types s rows t = AreInside types s t rows
IsPartReady plain types s rows t = CanEvaluate types s t
IsPartReady bound types s rows t = Unit {0}
IsPartReady catching types s rows t = Unit {0}

-- so are the parts from a place on, of so many
abbrev pub ArePartsReady : Fun → ℕ → ℕ → (Source → Option Shape) → ScopeValues → List Row
    → List Term → Type 0
ArePartsReady f n i types s rows [] = Unit {0}
ArePartsReady f n i types s rows (t ∷ ts) = IsPartReady (standing_at (over f) n i) types s rows t
    × ArePartsReady f n (suc i) types s rows ts
