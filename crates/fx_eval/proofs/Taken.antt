-- What a form is worth, by what a part makes of it.
use Rattle.std.proofs.Common.{◌≡◌, List, [], ◌∷◌, Bool, true, false}
use Rattle.std.specs.Prelude.{if◌then◌else◌}
use Rattle.fx_types.specs.Values.{Data, blank, number, text, boolean, date, rec, tab, fault}
use Rattle.fx_eval.specs.Courses.{Going, all, any, branches, switch, matches, recovers, coalesces, FormIsWorth, ends_in_branch, form_end, Turning, answers, chooses, catches, goes, passes, by_decision, turned_by}
use Rattle.fx_semantics.specs.Around.{Around, Meaning, catching}
use Rattle.fx_semantics.specs.Forms.{IsAll, IsAny, IsIf, IsSwitchMatch, IsRecovered, IsCoalesced, IsCaughtBy}
use Rattle.fx_scalar.specs.declared.lazy_forms.Decision.{Decision}
use Rattle.fx_scalar.specs.declared.lazy_forms.Decision.TheVariants.{Met, Unmet, Error}
use Rattle.fx_scalar.specs.LazyForms.{ByDecision, ErrorOr, PassedOr, decision_of, equality}
use Rattle.fx_scalar.specs.ScalarFunctions.{is_blank_or_empty}

-- what is left to hold where the parts behind a part are these
abbrev pub Then : Turning → List Meaning → Meaning
Then (answers d) Ps a v = v ≡ d
Then chooses (Q ∷ Ps) a v = Q a v
Then (catches k cs) (Q ∷ Ps) a v = Q (catching a k cs) v
Then (goes g) Ps a v = FormIsWorth g Ps a v
Then (passes g) (Q ∷ Ps) a v = FormIsWorth g Ps a v
Then t [] a v = ⊥

-- a part isn't the last of a form that ends in a branch
abbrev pub IsOpen : {X : Type 1} → Going → List X → Type 0
IsOpen branches [] = ⊥
IsOpen (matches w) [] = ⊥
IsOpen (recovers w) [] = ⊥
IsOpen g Ps = Unit {0}

conditioned : (d : Decision) (t u : Turning) (Ps : List Meaning) (a : Around) (v : Data) (T U : Type 0) →
    (Then t Ps a v → T) → (Then u Ps a v → U) → Then (by_decision d t u) Ps a v → ByDecision d T U v
conditioned Met t u Ps a v T U p q h = p h
conditioned Unmet t u Ps a v T U p q h = q h
conditioned (Error f) t u Ps a v T U p q h = h

switched : (w : Data) (Ps : List Meaning) (a : Around) (v : Data) → Then (turned_by switch w) Ps a v → ErrorOr w (IsSwitchMatch w Ps a v) v
switched (fault k cs) Ps a v h = h
switched (boolean b) Ps a v h = h
switched blank Ps a v h = h
switched (number z) Ps a v h = h
switched (text cs) Ps a v h = h
switched (date z) Ps a v h = h
switched (rec fs) Ps a v h = h
switched (tab rs) Ps a v h = h

recovered : (d w : Data) (Q : Meaning) (Ps : List Meaning) (a : Around) (v : Data) → Then (turned_by (recovers d) w) (Q ∷ Ps) a v →
    IsCaughtBy w Q a (IsRecovered w Ps a v) v
recovered d (fault k cs) Q Ps a v h = h
recovered d (boolean b) Q Ps a v h = h
recovered d blank Q Ps a v h = h
recovered d (number z) Q Ps a v h = h
recovered d (text cs) Q Ps a v h = h
recovered d (date z) Q Ps a v h = h
recovered d (rec fs) Q Ps a v h = h
recovered d (tab rs) Q Ps a v h = h

passed : (b : Bool) (w : Data) (Ps : List Meaning) (a : Around) (v : Data) → Then (if b then goes coalesces else answers w) Ps a v →
    PassedOr b (IsCoalesced Ps a v) (v ≡ w)
passed true w Ps a v h = h
passed false w Ps a v h = h

-- the value of a part, and what is left to hold then
pub part_taken : (g : Going) (P : Meaning) (Ps : List Meaning) (w : Data) (a : Around) (v : Data) → IsOpen g Ps → P a w →
    Then (turned_by g w) Ps a v → FormIsWorth g (P ∷ Ps) a v
part_taken all P Ps w a v o p h =
    (w, p, conditioned (decision_of w) (goes all) (answers (boolean false)) Ps a v (IsAll Ps a v) (v ≡ boolean false) (λ x. x) (λ x. x) h)
part_taken any P Ps w a v o p h =
    (w, p, conditioned (decision_of w) (answers (boolean true)) (goes any) Ps a v (v ≡ boolean true) (IsAny Ps a v) (λ x. x) (λ x. x) h)
part_taken branches P [] w a v o p h = absurd o
part_taken branches P (Q ∷ Ps) w a v o p h =
    (w, p, conditioned (decision_of w) chooses (passes branches) (Q ∷ Ps) a v (Q a v) (IsIf Ps a v) (λ x. x) (λ x. x) h)
part_taken switch P Ps w a v o p h = (w, p, switched w Ps a v h)
part_taken (matches u) P [] w a v o p h = absurd o
part_taken (matches u) P (Q ∷ Ps) w a v o p h =
    (w, p, conditioned (decision_of (equality u w)) chooses (passes (matches u)) (Q ∷ Ps) a v (Q a v) (IsSwitchMatch u Ps a v) (λ x. x) (λ x. x) h)
part_taken (recovers d) P [] w a v o p h = absurd o
part_taken (recovers d) P (Q ∷ Ps) w a v o p h = (w, p, recovered d w Q Ps a v h)
part_taken coalesces P Ps w a v o p h = (w, p, passed (is_blank_or_empty w) w Ps a v h)

-- a part that stands alone at the end
pub last_taken : (g : Going) (P : Meaning) (a : Around) (v : Data) → ends_in_branch g ≡ true → P a v → FormIsWorth g (P ∷ []) a v
last_taken all P a v e h = absurd cc
last_taken any P a v e h = absurd cc
last_taken branches P a v e h = h
last_taken switch P a v e h = absurd cc
last_taken (matches w) P a v e h = h
last_taken (recovers w) P a v e h = h
last_taken coalesces P a v e h = absurd cc

-- no part is left
abbrev pub IsSettled : Going → Type 0
IsSettled switch = ⊥
IsSettled g = Unit {0}
