-- What answering requests costs.
use Rattle.std.proofs.Common.{◌≡◌, ◌⊎◌, ℕ, ◌<◌, List, get_or, length, Option, Some, Result, Ok, Err, refl, ap, sym, ◌∙◌, subst, inl, inr}
use Rattle.std.specs.Prelude.{IfOk, OnOk, slice_get, slice_set}
use Rattle.std.specs.List.{position}
use Rattle.std.proofs.lemmas.List.{length-set}
use Rattle.app_cells.specs.declared.app.App.{App}
use Rattle.session_views.specs.Galleries.{gallery_named}
use Rattle.app_wire.specs.Framing.{Asked}
use Rattle.app_wire.specs.Routing.{Routing}
use Rattle.app_wire.specs.declared.route.Route.{Route}
use Rattle.app_wire.specs.declared.route.Route.TheVariants.{Begin, End, View, Named as Formulas, Items, Event, Input, Rows, Edit, Replace, Page, Plan, Graph}
use Rattle.recalc.specs.Kept.{CacheState}
use Rattle.numbered_requests.specs.Directory.{find, is_named}
use Rattle.numbered_requests.specs.declared.directory.Named.{Named}
use Rattle.row_keeper.specs.Tables.{Tables}
use Rattle.row_requests.specs.Page.{VisitsPage}
use Rattle.session_state.specs.Sessions.{SessionState}
use Rattle.office.proofs.Caching.{one_place}
use Rattle.office.proofs.Leaving.{find_at_each, find_placed}
use Rattle.office.proofs.Places.{cases_of, item_at, one_at, set_here, set_there}
use Rattle.office.proofs.Sent.{found_here, place_within}
use Rattle.office.specs.Caches.{AreKept}
use Rattle.office.specs.Costs.{Cost, CostOfItems, CostOfNamed, CostOfView, CostsAnswered, CostsBy, CostsTo, Counts, counts}
use Rattle.office.specs.Leaving.{HaveTurned}
use Rattle.office.specs.State.{OfficeView, OfficeState, schema_of}

-- what holds of what a call gives, by three of its clauses
pub ok_all : {X E : Type 0} (r : Result X E) (P Q : X → Type 0) (M : Type 0) (R : X → Type 0) → ((x : X) → P x → Q x → M → R x) → IfOk r P → IfOk r Q → OnOk r M → IfOk r R
ok_all (Ok x) P Q M R all p q h = all x p q h
ok_all (Err e) P Q M R all p q h = tt

-- ---- what a session is shown

-- the one at a place became another, and is found so under its name
found_set : (name : List ℕ) (cs : List (Named CacheState)) (p : ℕ) (old : Named CacheState) (now : CacheState) → position (is_named name) cs ≡ Some p → slice_get cs p ≡ Some old
    → find name (slice_set cs p (record { name = old.name; it = now })) ≡ Some now
found_set name cs p old now place there =
    let so = find_at_each (λ k x y. (k ≡ p → y ≡ now)) name cs (slice_set cs p new) old.it (record { long = length-set cs p new; each = λ k x at. by k x at (cases_of k p) }) (find_placed name cs p old place there) in
    let at_p : so.1 ≡ p = let both : Some so.1 ≡ Some p = sym so.3 ∙ place in cc in
    so.2 ∙ ap Some (so.4 at_p)
  where
    new : Named CacheState
    new = record { name = old.name; it = now }

    by : (k : ℕ) (x : Named CacheState) → slice_get cs k ≡ Some x → (k ≡ p) ⊎ (k ≡ p → ⊥) → (y : Named CacheState) × (slice_get (slice_set cs p new) k ≡ Some y) × (y.name ≡ x.name) × (k ≡ p → y.it ≡ now)
    by k x at (inl e) =
        let same : old ≡ x = one_at cs p old x there (subst (λ j. slice_get cs j ≡ Some x) e at) in
        (new, subst (λ j. slice_get (slice_set cs p new) j ≡ Some new) (sym e) (set_here cs p old new there), ap (λ (z : Named CacheState). z.name) same, λ again. refl)
    by k x at (inr far) = (x, set_there cs k p x new far at, refl, λ e. absurd (far e))

-- a live session is shown something, over what is kept at its place
pub costs_there : (C : Cost) (a : App) (x : Option Tables) (m : ℕ) (name : List ℕ) (ss : List (Named SessionState)) (cs : List (Named CacheState)) (p : ℕ) (d : Named SessionState) (old : Named CacheState) (now : CacheState) (before after : Counts)
    → AreKept a x m ss cs → Some p ≡ position (is_named name) ss → p < length ss → old ≡ get_or cs p old → C (get_or ss p d).it old.it now before after
    → CostsTo C name (find name ss) cs (slice_set cs p (record { name = old.name; it = now })) before after
costs_there C a x m name ss cs p d old now before after kept place within is cost =
    let beside : position (is_named name) cs ≡ Some p = one_place a x m name ss cs kept ∙ sym place in
    let there : slice_get cs p ≡ Some old = item_at cs p old (place_within a x m ss cs p kept within) is in
    subst (λ (o : Option SessionState). CostsTo C name o cs (slice_set cs p (record { name = old.name; it = now })) before after) (sym (found_here name ss p d place within))
    (old.it, now, find_placed name cs p old beside there, found_set name cs p old now beside there, cost)

-- ---- routes

pub costs_view : (name said : List ℕ) (m : ℕ) (s t : OfficeState) (old new : List (Named CacheState)) (before after : Counts) → CostsTo (CostOfView s.app t.tables m said) name (find name s.sessions) old new before after → CostsBy (View name) m s said t old new before after
unfolding CostsBy
costs_view name said m s t old new before after h = h

pub costs_named : (name said : List ℕ) (m : ℕ) (s t : OfficeState) (old new : List (Named CacheState)) (before after : Counts) → CostsTo (CostOfNamed s.app t.tables m) name (find name s.sessions) old new before after → CostsBy (Formulas name) m s said t old new before after
unfolding CostsBy
costs_named name said m s t old new before after h = h

pub costs_items : (name gallery : List ℕ) (from : ℕ) (said : List ℕ) (m : ℕ) (s t : OfficeState) (old new : List (Named CacheState)) (before after : Counts)
    → CostsTo (CostOfItems s.app t.tables m from (gallery_named gallery s.app.names) said) name (find name s.sessions) old new before after → CostsBy (Items name gallery from) m s said t old new before after
unfolding CostsBy
costs_items name gallery from said m s t old new before after h = h

pub costs_page : (table : List ℕ) (number : ℕ) (said : List ℕ) (m : ℕ) (s t : OfficeState) (old new : List (Named CacheState)) (x v w : ℕ) → VisitsPage (schema_of s.app).tables table number t.tables v w
    → CostsBy (Page table number) m s said t old new (counts x v) (counts x w)
unfolding CostsBy
costs_page table number said m s t old new x v w visits = (refl, visits)

pub costs_rows : (desk said : List ℕ) (m : ℕ) (s t : OfficeState) (old new : List (Named CacheState)) (x v w : ℕ) → CostsBy (Rows desk) m s said t old new (counts x v) (counts x w)
unfolding CostsBy
costs_rows desk said m s t old new x v w = refl

pub costs_replacement : (desk said : List ℕ) (m : ℕ) (s t : OfficeState) (old new : List (Named CacheState)) (x v w : ℕ) → CostsBy (Replace desk) m s said t old new (counts x v) (counts x w)
unfolding CostsBy
costs_replacement desk said m s t old new x v w = refl

-- by these nothing is evaluated, and the keeper isn't asked
abbrev pub IsStill : Route → Type 0
IsStill (Edit desk) = Unit {0}
IsStill (End name) = Unit {0}
IsStill Plan = Unit {0}
IsStill Graph = Unit {0}
IsStill r = ⊥

pub costs_still : (kind : Route) (said : List ℕ) (m : ℕ) (s t : OfficeState) (old new : List (Named CacheState)) (x v : ℕ) → IsStill kind → CostsBy kind m s said t old new (counts x v) (counts x v)
unfolding CostsBy
costs_still (Edit desk) said m s t old new x v h = (refl, refl)
costs_still (End name) said m s t old new x v h = (refl, refl)
costs_still Plan said m s t old new x v h = (refl, refl)
costs_still Graph said m s t old new x v h = (refl, refl)
costs_still (View name) said m s t old new x v h = absurd h
costs_still (Formulas name) said m s t old new x v h = absurd h
costs_still (Items name gallery from) said m s t old new x v h = absurd h
costs_still (Page table number) said m s t old new x v h = absurd h
costs_still (Rows desk) said m s t old new x v h = absurd h
costs_still (Replace desk) said m s t old new x v h = absurd h
costs_still (Begin name) said m s t old new x v h = absurd h
costs_still (Event name) said m s t old new x v h = absurd h
costs_still (Input name) said m s t old new x v h = absurd h

-- of these nothing is said
abbrev pub IsFormula : Route → Type 0
IsFormula (Begin name) = Unit {0}
IsFormula (Event name) = Unit {0}
IsFormula (Input name) = Unit {0}
IsFormula r = ⊥

costs_any : (kind : Route) (said : List ℕ) (m : ℕ) (s t : OfficeState) (old new : List (Named CacheState)) (before after : Counts) → IsFormula kind → CostsBy kind m s said t old new before after
unfolding CostsBy
costs_any (Begin name) said m s t old new before after h = tt
costs_any (Event name) said m s t old new before after h = tt
costs_any (Input name) said m s t old new before after h = tt
costs_any (Edit desk) said m s t old new before after h = absurd h
costs_any (End name) said m s t old new before after h = absurd h
costs_any Plan said m s t old new before after h = absurd h
costs_any Graph said m s t old new before after h = absurd h
costs_any (View name) said m s t old new before after h = absurd h
costs_any (Formulas name) said m s t old new before after h = absurd h
costs_any (Items name gallery from) said m s t old new before after h = absurd h
costs_any (Page table number) said m s t old new before after h = absurd h
costs_any (Rows desk) said m s t old new before after h = absurd h
costs_any (Replace desk) said m s t old new before after h = absurd h

pub costs_acting : (route kind : Route) (said : List ℕ) (m : ℕ) (s t : OfficeState) (old new : List (Named CacheState)) (before after : Counts) → route ≡ kind → IsFormula kind → CostsBy route m s said t old new before after
costs_acting route kind said m s t old new before after is acts = subst (λ (r : Route). CostsBy r m s said t old new before after) (sym is) (costs_any kind said m s t old new before after acts)

-- so it is said of the route that was taken, over the office as it is seen
pub costs_by : (route kind : Route) (old made : OfficeView) (said : List ℕ) (t : OfficeState) (ds : List (Named CacheState)) (x : ℕ) (after : Counts) → route ≡ kind → made ≡ old
    → CostsBy kind made.moment made.state said t made.caches ds (counts x made.visited) after → CostsBy route old.moment old.state said t old.caches ds (counts x old.visited) after
costs_by route kind old made said t ds x after is same h =
    subst (λ (s : OfficeView). CostsBy route s.moment s.state said t s.caches ds (counts x s.visited) after) same
    (subst (λ (r : Route). CostsBy r made.moment made.state said t made.caches ds (counts x made.visited) after) (sym is) h)

-- over an office that went over to the moment
pub costs_then : (s t u : OfficeState) (before m moment : ℕ) (request : Asked) (route : Route) (said : List ℕ) (cs ds es : List (Named CacheState)) (x v w : ℕ) (after : Counts) → Routing request.method request.path (Ok route) → t ≡ s → m ≡ moment → w ≡ v
    → HaveTurned before moment cs ds → CostsBy route m t said u ds es (counts x w) after → CostsAnswered s before cs moment request said u es (counts x v) after
costs_then s t u before m moment request route said cs ds es x v w after is state at visited day h =
    inl (
      route,
      ds,
      is,
      day,
      subst (λ (n : ℕ). CostsBy route n s said u ds es (counts x v) after) at
          (subst (λ (n : ℕ). CostsBy route m s said u ds es (counts x n) after) visited
          (subst (λ (z : OfficeState). CostsBy route m z said u ds es (counts x w) after) state h)),
    )
