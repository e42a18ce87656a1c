-- One part of a form after another.
use Rattle.std.proofs.Common.{◌≡◌, ℕ, suc, ◌<◌, List, [], ◌∷◌, true, Option, sym, subst, arith}
use Rattle.fx_types.specs.declared.faults.Kind.{Kind}
use Rattle.fx_types.specs.Types.{Shape}
use Rattle.fx_types.specs.Values.{Data}
use Rattle.fx_eval.specs.Courses.{Going, all, any, branches, switch, matches, recovers, coalesces, FormIsWorth, ends_in_branch, Turning, answers, chooses, catches, goes, passes, turned_by}
use Rattle.fx_eval.specs.Kinds.{CanTurn}
use Rattle.fx_eval.specs.EvalSteps.{Moment, Went}
use Rattle.fx_eval.specs.Parts.{AreSet, AreSome, HasNext}
use Rattle.fx_env.specs.Scopes.{ScopeValues, around, IsTypedHere}
use Rattle.fx_eval.proofs.Forms.{ThenSet, can_turn, rest_set}
use Rattle.fx_eval.proofs.Passing.{as_before, meant_before}
use Rattle.fx_eval.proofs.Taken.{IsOpen, Then, last_taken, part_taken}
use Rattle.fx_semantics.specs.Around.{Around}
use Rattle.fx_semantics.specs.Around.{catching as around_caught}
use Rattle.fx_semantics.specs.Fresh.{IsValue, meaning, meanings}
use Rattle.fx_core.specs.declared.sources.Source.{Source}
use Rattle.fx_core.specs.Term.{Term, term_size, terms_size}
use Rattle.fx_core.specs.Term as terms
use Rattle.fx_value.specs.Fits.{fits_in}

abbrev Types : Type 0
Types = Source → Option Shape

open_meanings : (g : Going) (ts : List Term) → HasNext g ts → IsOpen g (meanings (terms.all ts))
open_meanings all ts h = tt
open_meanings any ts h = tt
open_meanings branches [] h = absurd h
open_meanings branches (t ∷ ts) h = tt
open_meanings switch ts h = tt
open_meanings (matches w) [] h = absurd h
open_meanings (matches w) (t ∷ ts) h = tt
open_meanings (recovers w) [] h = absurd h
open_meanings (recovers w) (t ∷ ts) h = tt
open_meanings coalesces ts h = tt

-- the value of a part, what it makes of the form, and what is left to hold then
pub taken : (types : Types) (told : Option (Source → Data)) (s : ScopeValues) (g : Going) (t : Term) (ts : List Term) (w v : Data) (x : Turning) → HasNext g ts →
    IsValue (around types told s) t w → x ≡ turned_by g w → Then x (meanings (terms.all ts)) (around types told s) v →
    FormIsWorth g (meanings (terms.all (t ∷ ts))) (around types told s) v
taken types told s g t ts w v x n h e k =
    part_taken g (meaning t) (meanings (terms.all ts)) w (around types told s) v (open_meanings g ts n) h
    (subst (λ (z : Turning). Then z (meanings (terms.all ts)) (around types told s) v) e k)

-- the next part matters
abbrev pub IsNext : Turning → Type 0
IsNext (answers d) = ⊥
IsNext (goes g) = ⊥
IsNext x = Unit {0}

-- what is ready then
pub following : (types : Types) (s : ScopeValues) (g : Going) (t : Term) (ts : List Term) (w : Data) (x : Turning) → HasNext g ts →
    ((u : Shape) → IsTypedHere types s t u → fits_in w u ≡ true) → x ≡ turned_by g w → AreSet types s g (t ∷ ts) → ThenSet types s x ts
following types s g t ts w x n f e k = subst (λ (z : Turning). ThenSet types s z ts) (sym e) (rest_set types s g t ts w n f k)

-- a part that stands alone at the end
pub ended : (types : Types) (told : Option (Source → Data)) (s : ScopeValues) (g : Going) (t : Term) (ts : List Term) (v : Data) → ts ≡ [] → ends_in_branch g ≡ true →
    IsValue (around types told s) t v → FormIsWorth g (meanings (terms.all (t ∷ ts))) (around types told s) v
ended types told s g t ts v n e h =
    subst (λ (z : List Term). FormIsWorth g (meanings (terms.all (t ∷ z))) (around types told s) v) (sym n) (last_taken g (meaning t) (around types told s) v e h)

-- ---- a form on its way: some parts are passed, and nothing has changed but what reads change

-- what decides of the parts that are left decides of all
abbrev pub Decides : {B : Type 0} → Option (Source → Data) → Moment B → Going → List Term → Going → List Term → Type 0
Decides told m g rest g0 parts =
    (v : Data) → FormIsWorth g (meanings (terms.all rest)) (around m.fixed.types told m.scope) v → FormIsWorth g0 (meanings (terms.all parts)) (around m.fixed.types told m.scope) v

-- the last part's value
pub end_step : {B : Type 0} (told : Option (Source → Data)) (m n : Moment B) (g0 g : Going) (parts rest : List Term) (t : Term) (others : List Term) → Went m n → Decides told m g rest g0 parts → rest ≡ t ∷ others → others ≡ [] →
    ends_in_branch g ≡ true → (v : Data) → IsValue (around n.fixed.types told n.scope) t v → FormIsWorth g0 (meanings (terms.all parts)) (around m.fixed.types told m.scope) v
end_step told m n g0 g parts rest t others w d e o b v h =
    let a = around m.fixed.types told m.scope in
    d v (subst (λ (z : List Term). FormIsWorth g (meanings (terms.all z)) a v) (sym e)
    (ended m.fixed.types told m.scope g t others v o b (meant_before told (meaning t) (λ s. s) m n w v h)))

-- its value fits
fits_there : {B : Type 0} (m n : Moment B) (t : Term) (d : Data) → Went m n → ((u : Shape) → IsTypedHere n.fixed.types n.scope t u → fits_in d u ≡ true) →
    (u : Shape) → IsTypedHere m.fixed.types m.scope t u → fits_in d u ≡ true
fits_there m n t d w f u r = f u (as_before (λ types s. IsTypedHere types s t u) m n w r)

pub turn_step : {B : Type 0} (m n : Moment B) (g : Going) (rest : List Term) (t : Term) (others : List Term) (d : Data) → Went m n → AreSet m.fixed.types m.scope g rest → rest ≡ t ∷ others →
    HasNext g others → ((u : Shape) → IsTypedHere n.fixed.types n.scope t u → fits_in d u ≡ true) → CanTurn g d
turn_step m n g rest t others d w p e o f =
    can_turn m.fixed.types m.scope g t others d o (fits_there m n t d w f) (subst (AreSet m.fixed.types m.scope g) e p)

-- what is ready behind it
pub next_step : {B : Type 0} (m n : Moment B) (g : Going) (rest : List Term) (t : Term) (others : List Term) (d : Data) (x : Turning) → Went m n → AreSet m.fixed.types m.scope g rest → rest ≡ t ∷ others →
    HasNext g others → ((u : Shape) → IsTypedHere n.fixed.types n.scope t u → fits_in d u ≡ true) → x ≡ turned_by g d → ThenSet m.fixed.types m.scope x others
next_step m n g rest t others d x w p e o f q =
    following m.fixed.types m.scope g t others d x o (fits_there m n t d w f) q (subst (AreSet m.fixed.types m.scope g) e p)

-- what is left to hold behind it
pub then_step : {B : Type 0} (told : Option (Source → Data)) (m n : Moment B) (g0 g : Going) (parts rest : List Term) (t : Term) (others : List Term) (d : Data) (x : Turning) → Went m n → Decides told m g rest g0 parts → rest ≡ t ∷ others →
    HasNext g others → IsValue (around n.fixed.types told n.scope) t d → x ≡ turned_by g d →
    (v : Data) → Then x (meanings (terms.all others)) (around m.fixed.types told m.scope) v → FormIsWorth g0 (meanings (terms.all parts)) (around m.fixed.types told m.scope) v
then_step told m n g0 g parts rest t others d x w i e o h q v k =
    let a = around m.fixed.types told m.scope in
    i v (subst (λ (z : List Term). FormIsWorth g (meanings (terms.all z)) a v) (sym e)
    (taken m.fixed.types told m.scope g t others d v x o (meant_before told (meaning t) (λ s. s) m n w d h) q k))

-- there are parts where the next one decides
pub some_there : (types : Types) (s : ScopeValues) (x : Turning) (ts : List Term) → IsNext x → ThenSet types s x ts → AreSome ts
some_there types s chooses [] n h = absurd h
some_there types s chooses (t ∷ ts) n h = tt
some_there types s (catches k cs) [] n h = absurd h
some_there types s (catches k cs) (t ∷ ts) n h = tt
some_there types s (passes g) [] n h = absurd h
some_there types s (passes g) (t ∷ ts) n h = tt
some_there types s (answers d) ts n h = absurd n
some_there types s (goes g) ts n h = absurd n

-- the next part is smaller than all
pub next_falls : (rest : List Term) (t : Term) (others : List Term) (u : Term) (beyond : List Term) → rest ≡ t ∷ others → others ≡ u ∷ beyond → suc (term_size u) < terms_size (terms.all rest)
next_falls rest t others u beyond e f = rw (e, f) (omega arith)

-- the next part's value, and its value where an error is caught, are the form's
pub branch_then : (others : List Term) (u : Term) (beyond : List Term) (a : Around) (v : Data) → others ≡ u ∷ beyond → IsValue a u v → Then chooses (meanings (terms.all others)) a v
branch_then others u beyond a v e h = subst (λ (z : List Term). Then chooses (meanings (terms.all z)) a v) (sym e) h

pub fallback_then : (others : List Term) (u : Term) (beyond : List Term) (k : Kind) (cs : List ℕ) (a : Around) (v : Data) → others ≡ u ∷ beyond → IsValue (around_caught a k cs) u v →
    Then (catches k cs) (meanings (terms.all others)) a v
fallback_then others u beyond k cs a v e h = subst (λ (z : List Term). Then (catches k cs) (meanings (terms.all z)) a v) (sym e) h

pub beyond_then : (others : List Term) (u : Term) (beyond : List Term) (g : Going) (a : Around) (v : Data) → others ≡ u ∷ beyond → FormIsWorth g (meanings (terms.all beyond)) a v →
    Then (passes g) (meanings (terms.all others)) a v
beyond_then others u beyond g a v e h = subst (λ (z : List Term). Then (passes g) (meanings (terms.all z)) a v) (sym e) h
