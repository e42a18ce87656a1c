-- The parts of forms are ready, by where a form stands before them.
use Rattle.std.proofs.Common.{◌≡◌, List, [], ◌∷◌, Bool, true, false, Option}
use Rattle.std.specs.Prelude.{if◌then◌else◌}
use Rattle.fx_types.specs.Types.{Shape, booleans}
use Rattle.fx_types.specs.Values.{Data, blank, number, text, boolean, date, rec, tab, fault}
use Rattle.fx_eval.specs.Courses.{Going, all, any, branches, switch, matches, recovers, coalesces, Turning, answers, chooses, catches, goes, passes, by_decision, turned_by}
use Rattle.fx_eval.specs.Kinds.{CanTurn}
use Rattle.fx_eval.specs.Parts.{AreMatches, AreRecoveries, AreFine, AreSet, HasNext, IsFallback, caught_in}
use Rattle.fx_env.specs.Scopes.{ScopeValues, IsTypedHere, CanEvaluate}
use Rattle.fx_eval.proofs.Taken.{IsSettled}
use Rattle.fx_eval.proofs.Matching.{can_match}
use Rattle.fx_scalar.specs.declared.lazy_forms.Decision.{Decision}
use Rattle.fx_scalar.specs.declared.lazy_forms.Decision.TheVariants.{Met, Unmet, Error}
use Rattle.fx_scalar.specs.LazyForms.{decision_of, equality}
use Rattle.fx_scalar.specs.ScalarFunctions.{is_blank_or_empty}
use Rattle.fx_core.specs.declared.sources.Source.{Source}
use Rattle.fx_core.specs.Term.{Term}
use Rattle.fx_value.specs.Fits.{fits_in}

abbrev Types : Type 0
Types = Source → Option Shape

-- the part's value, which fits each type that the part has
abbrev FitsAs : Types → ScopeValues → Term → Data → Type 0
FitsAs types s t d = (u : Shape) → IsTypedHere types s t u → fits_in d u ≡ true

-- what is ready behind a part
abbrev pub ThenSet : Types → ScopeValues → Turning → List Term → Type 0
ThenSet types s (answers d) ts = Unit {0}
ThenSet types s chooses (t ∷ ts) = CanEvaluate types s t
ThenSet types s (catches k cs) (t ∷ ts) = CanEvaluate types (caught_in s k cs) t
ThenSet types s (goes g) ts = AreSet types s g ts
ThenSet types s (passes g) (t ∷ ts) = AreSet types s g ts
ThenSet types s t [] = ⊥

by_either : (types : Types) (s : ScopeValues) (d : Decision) (t u : Turning) (ts : List Term) → ThenSet types s t ts → ThenSet types s u ts → ThenSet types s (by_decision d t u) ts
by_either types s Met t u ts p q = p
by_either types s Unmet t u ts p q = q
by_either types s (Error f) t u ts p q = tt

switch_set : (types : Types) (s : ScopeValues) (d : Data) (u : Shape) (ts : List Term) → fits_in d u ≡ true → AreMatches types s u ts → ThenSet types s (turned_by switch d) ts
switch_set types s (fault k cs) u ts f h = tt
switch_set types s blank u ts f h = (u, f, h)
switch_set types s (number z) u ts f h = (u, f, h)
switch_set types s (text cs) u ts f h = (u, f, h)
switch_set types s (boolean b) u ts f h = (u, f, h)
switch_set types s (date z) u ts f h = (u, f, h)
switch_set types s (rec fs) u ts f h = (u, f, h)
switch_set types s (tab rs) u ts f h = (u, f, h)

recover_set : (types : Types) (s : ScopeValues) (w d : Data) (t : Term) (ts : List Term) → IsFallback types s t → AreRecoveries types s ts → ThenSet types s (turned_by (recovers w) d) (t ∷ ts)
recover_set types s w (fault k cs) t ts f h = f k cs
recover_set types s w blank t ts f h = h
recover_set types s w (number z) t ts f h = h
recover_set types s w (text cs) t ts f h = h
recover_set types s w (boolean b) t ts f h = h
recover_set types s w (date z) t ts f h = h
recover_set types s w (rec fs) t ts f h = h
recover_set types s w (tab rs) t ts f h = h

coalesce_set : (b : Bool) (types : Types) (s : ScopeValues) (d : Data) (ts : List Term) → AreFine types s ts → ThenSet types s (if b then goes coalesces else answers d) ts
coalesce_set true types s d ts h = h
coalesce_set false types s d ts h = tt

pub rest_set : (types : Types) (s : ScopeValues) (g : Going) (t : Term) (ts : List Term) (d : Data) → HasNext g ts → FitsAs types s t d →
    AreSet types s g (t ∷ ts) → ThenSet types s (turned_by g d) ts
rest_set types s all t ts d o f h = by_either types s (decision_of d) (goes all) (answers (boolean false)) ts h.1 tt
rest_set types s any t ts d o f h = by_either types s (decision_of d) (answers (boolean true)) (goes any) ts tt h.1
rest_set types s branches t [] d o f h = absurd o
rest_set types s branches t (u ∷ ts) d o f h = by_either types s (decision_of d) chooses (passes branches) (u ∷ ts) h.1 h.2
rest_set types s switch t ts d o f h = switch_set types s d h.0 ts (f h.0 h.1) h.2
rest_set types s (matches w) t [] d o f h = absurd o
rest_set types s (matches w) t (u ∷ ts) d o f h =
    by_either types s (decision_of (equality w d)) chooses (passes (matches w)) (u ∷ ts) h.2.1 (h.0, h.1, h.2.2)
rest_set types s (recovers w) t [] d o f h = absurd o
rest_set types s (recovers w) t (u ∷ ts) d o f h = recover_set types s w d u ts h.1 h.2
rest_set types s coalesces t ts d o f h = coalesce_set (is_blank_or_empty d) types s d ts h.1

pub can_turn : (types : Types) (s : ScopeValues) (g : Going) (t : Term) (ts : List Term) (d : Data) → HasNext g ts → FitsAs types s t d →
    AreSet types s g (t ∷ ts) → CanTurn g d
can_turn types s all t ts d o f h = tt
can_turn types s any t ts d o f h = tt
can_turn types s branches t ts d o f h = tt
can_turn types s switch t ts d o f h = tt
can_turn types s (matches w) t [] d o f h = absurd o
can_turn types s (matches w) t (u ∷ ts) d o f h = can_match w d h.0 h.2.0.0 h.1 (f h.2.0.0 h.2.0.1) h.2.0.2
can_turn types s (recovers w) t ts d o f h = tt
can_turn types s coalesces t ts d o f h = tt
