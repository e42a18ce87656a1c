-- What a behaviour formula has done that was cut off on the way, by recursion on the tree: the
-- parts before have done what they do whole, and one was cut off.
use Rattle.std.specs.Prelude.{◌≡◌, ◌⊎◌, List, [], ◌∷◌, Bool, true, false}
use Rattle.fx_types.specs.Values.{Data}
use Rattle.fx_env.specs.Scopes.{ScopeValues}
use Rattle.fx_eval.specs.Parts.{caught_in, inner}
use Rattle.fx_scalar.specs.declared.lazy_forms.Decision.{Decision}
use Rattle.fx_scalar.specs.declared.lazy_forms.Decision.TheVariants.{Met, Unmet, Error}
use Rattle.fx_scalar.specs.LazyForms.{CaughtOr, decision_of}
use Rattle.fx_semantics.specs.Around.{record_of}
use Rattle.fx_semantics.specs.Rows.{rows_in}
use Rattle.fx_value.specs.Columns.{Row}
use Rattle.fx_core.specs.declared.deeds.Deed.{Deed}
use Rattle.fx_core.specs.declared.deeds.Deed.TheVariants as deed
use Rattle.fx_core.specs.declared.deeds.Target.{Target}
use Rattle.fx_core.specs.declared.functions.Form.TheVariants as form
use Rattle.fx_core.specs.Term.{Term, Terms, of, nil, cons, Top}
use Rattle.fx_core.specs.Term as top
use Rattle.fx_typing.specs.Acts.{acts}
use Rattle.fx_semantics.specs.Places.{is_for_all}
use Rattle.fx_deeds.specs.CutOff.{CutDeed, CutUpdate}
use Rattle.fx_deeds.specs.State.{EvalFrame, Giving, Ground, WorldState}
use Rattle.fx_deeds.specs.Within.{Within}
use Rattle.fx_behave.specs.Perform.{PerformsEach, ArePerformed, Doing, Performs, switch_decision}
use Rattle.fx_behave.specs.Perform.{performing}
use Rattle.fx_behave.specs.Unique.{GivesOne}

-- what a formula may leave that was cut off where it stands
abbrev pub Cutting : Type 0 → Type 1
Cutting A = ScopeValues → WorldState A → WorldState A → Type 0

-- a part: what it does, and what it may leave that was cut off
pub record CutPart (A : Type 0) : Type 1 where
  pub whole : Doing A
  pub cut : Cutting A

-- what parts do
abbrev pub wholes : {A : Type 0} → List (CutPart A) → List (Doing A)
wholes [] = []
wholes (P ∷ Ps) = P.whole ∷ wholes Ps

-- a part was cut off, or it was performed and K holds of its value and of what it left
abbrev pub CutOr : {A : Type 0} → CutPart A → (Data → WorldState A → Type 0) → Cutting A
CutOr {A} P K h s u = P.cut h s u ⊎ ((x : Data) × (m : WorldState A) × P.whole h s x m × K x m)

-- ---- parts in order

-- parts were performed from left to right, up to one that was cut off, or all
abbrev pub AreCut : {A : Type 0} → List (CutPart A) → Cutting A
AreCut [] h s u = u ≡ s
AreCut (P ∷ Ps) h s u = CutOr P (λ x m. AreCut Ps h m u) h s u

-- ---- branches

-- P where a condition is met, Q where it is not, and behind an error of it nothing more is begun
abbrev pub Chosen : Decision → Type 0 → Type 0 → Type 0
Chosen Met P Q = P
Chosen Unmet P Q = Q
Chosen (Error f) P Q = ⊥

-- conditions and branches
abbrev pub IsBranchCut : {A : Type 0} → (Data → Decision) → List (CutPart A) → Cutting A
IsBranchCut D [] h s u = ⊥
IsBranchCut D (P ∷ []) h s u = P.cut h s u
IsBranchCut D (C ∷ P ∷ Ps) h s u = CutOr C (λ w m. Chosen (D w) (P.cut h m u)
    (IsBranchCut D Ps h m u)) h s u

-- the value is no error, and P
abbrev pub Unless : Data → Type 0 → Type 0
Unless w P = CaughtOr w (λ k cs. ⊥) P

-- `Switch`
abbrev pub IsSwitchCut : {A : Type 0} → List (CutPart A) → Cutting A
IsSwitchCut [] h s u = ⊥
IsSwitchCut (P ∷ Ps) h s u = CutOr P (λ w m. Unless w (IsBranchCut (switch_decision w) Ps h m u)) h
    s u

-- `IfError`
abbrev pub IsRecoveryCut : {A : Type 0} → List (CutPart A) → Cutting A
IsRecoveryCut [] h s u = ⊥
IsRecoveryCut (P ∷ []) h s u = P.cut h s u
IsRecoveryCut (P ∷ F ∷ Ps) h s u =
    CutOr P (λ w m. CaughtOr w (λ k cs. F.cut (caught_in h k cs) m u) (IsRecoveryCut Ps h m u)) h s
    u

-- ---- scopes

-- `With`
abbrev pub IsWithinCut : {A : Type 0} → List (CutPart A) → Cutting A
IsWithinCut (P ∷ F ∷ []) h s u = CutOr P (λ w m. Unless w (F.cut (inner h w) m u)) h s u
IsWithinCut Ps h s u = ⊥

-- a formula was performed for rows in order, up to one for which it was cut off, or for all
abbrev pub AreEachCut : {A : Type 0} → CutPart A → ScopeValues → List Row → WorldState A
    → WorldState A → Type 0
AreEachCut P h [] s u = u ≡ s
AreEachCut P h (r ∷ rs) s u = CutOr P (λ x m. AreEachCut P h rs m u) (inner h (record_of r)) s u

-- `ForAll`
abbrev pub IsForAllCut : {A : Type 0} → List (CutPart A) → Cutting A
IsForAllCut (P ∷ F ∷ []) h s u = CutOr P (λ w m. Unless w (AreEachCut F h (rows_in w) m u)) h s u
IsForAllCut Ps h s u = ⊥

abbrev pub IsOverAllCut : {A : Type 0} → Bool → List (CutPart A) → Cutting A
IsOverAllCut true Ps h s u = IsForAllCut Ps h s u
IsOverAllCut false Ps h s u = ⊥

-- ---- deeds

-- the changes of rows were cut off, or all were found and the deed was cut off
abbrev pub AreChangesCut : {A : Type 0} → Ground A → Target → CutPart A → ScopeValues → List Row
    → WorldState A → WorldState A → Type 0
AreChangesCut {A} g p F h rs s u =
    AreEachCut F h rs s u ⊎ ((es : List Data) × (o : WorldState A)
    × PerformsEach F.whole h rs s es o × CutUpdate g.frame p rs es o u)

-- `UpdateIf`
abbrev pub IsUpdateIfCut : {A : Type 0} → Ground A → Target → List (CutPart A) → Cutting A
IsUpdateIfCut g p (P ∷ F ∷ []) h s u = CutOr P
    (λ w m. Unless w (AreChangesCut g p F h (rows_in w) m u)) h s u
IsUpdateIfCut g p Ps h s u = ⊥

-- the parts were cut off, or all were performed and the deed was cut off
abbrev pub IsActCut : {A : Type 0} → Ground A → Deed → List (CutPart A) → Cutting A
IsActCut g (deed.UpdateIf p) Ps h s u = IsUpdateIfCut g p Ps h s u
IsActCut {A} g d Ps h s u =
    AreCut Ps h s u ⊎ ((ds : List Data) × (m : WorldState A) × ArePerformed (wholes Ps) h s ds m
    × CutDeed g.frame d ds m u)

-- ---- trees

-- what a node may leave in which something acts, by its head and its parts
abbrev pub IsActingCut : {A : Type 0} → Ground A → Top → List (CutPart A) → Cutting A
IsActingCut g top.chain Ps h s u = AreCut Ps h s u
IsActingCut g (top.act d) Ps h s u = IsActCut g d Ps h s u
IsActingCut g (top.form form.If) Ps h s u = IsBranchCut decision_of Ps h s u
IsActingCut g (top.form form.Switch) Ps h s u = IsSwitchCut Ps h s u
IsActingCut g (top.form form.IfError) Ps h s u = IsRecoveryCut Ps h s u
IsActingCut g top.within Ps h s u = IsWithinCut Ps h s u
IsActingCut g (top.over f) Ps h s u = IsOverAllCut (is_for_all f) Ps h s u
IsActingCut g (top.dot n) Ps h s u = AreCut Ps h s u
IsActingCut g (top.coerce to) Ps h s u = AreCut Ps h s u
IsActingCut g (top.list r) Ps h s u = AreCut Ps h s u
IsActingCut g k Ps h s u = ⊥

-- the same of any node: nothing was done yet, and one in which nothing acts does nothing
abbrev pub IsCut : {A : Type 0} → Ground A → Bool → Top → List (CutPart A) → Cutting A
IsCut g true k Ps h s u = (u ≡ s) ⊎ IsActingCut g k Ps h s u
IsCut g false k Ps h s u = u ≡ s

abbrev mutual
  -- what a tree may leave that was cut off
  pub cutting : {A : Type 0} → Ground A → Term → Cutting A
  cutting g (of k ts) = IsCut g (acts (of k ts)) k (parts g ts)

  pub parts : {A : Type 0} → Ground A → Terms → List (CutPart A)
  parts g nil = []
  parts g (cons t ts) = record { whole = performing g t; cut = cutting g t } ∷ parts g ts

-- a tree as a part
abbrev pub cut_part : {A : Type 0} → Ground A → Term → CutPart A
cut_part g t = record { whole = performing g t; cut = cutting g t }

-- PERFORMING a tree where it stands WAS CUT OFF, and has taken the state s to u
abbrev pub IsCutOff : {A : Type 0} → Ground A → Term → ScopeValues → WorldState A → WorldState A
    → Type 0
IsCutOff g t h s u = cutting g t h s u

-- over sources that give one value each the whole performing goes on from where it was cut off:
-- what was written by then is among what it writes
abbrev pub CutsGoOn : {A : Type 0} → Giving A → Type 0
CutsGoOn {A} gives =
    (f : EvalFrame) → GivesOne gives → (c : Term) (h : ScopeValues) (x : Data)
    (s u v : WorldState A) →
    IsCutOff (record { gives = gives; frame = f }) c h s u
    → Performs (record { gives = gives; frame = f }) c h x s v → Within u v
