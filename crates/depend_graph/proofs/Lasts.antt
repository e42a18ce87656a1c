-- The last number of the path, and what a change of one state does.
use Rattle.std.proofs.Common.{◌≡◌, ℕ, ◌+◌, ◌-◌, ◌<◌, ◌++◌, ◌∷◌, [], List, length, get_or, set, take, sym, ◌∙◌, ap, subst, inl, inr, arith, Some, get_or-set_same, get_or-set_other}
use Rattle.std.proofs.lemmas.List.{get_or_past, get_or_default, take_more, take_all}
use Rattle.std.proofs.lemmas.List.Sums.{sum_by-set}
use Rattle.std.proofs.lemmas.List.Elements.{Contains-get_or}
use Rattle.std.proofs.lemmas.Option.{get_or_from_slice_get, slice_get_within}
use Rattle.std.proofs.lemmas.Bool.{cases_lt, cases_eq}
use Rattle.std.specs.List.{slice_get, sum_by, Contains}
use Rattle.depend_graph.specs.declared.state.State.{State}
use Rattle.depend_graph.specs.declared.state.State.TheVariants.{New, Open}
use Rattle.depend_graph.specs.declared.search.Search.{Search}
use Rattle.depend_graph.specs.Search.{visit_state, work_of, IsSearchState}

-- the last number of the path is open
pub record IsLast (states : List State) (path : List ℕ) (last : ℕ) : Type 0 where
  pub any : 0 < length path
  pub stands : get_or path (length path - 1) 0 ≡ last
  pub left : ℕ
  pub state : visit_state states last ≡ Open (length path - 1) left
  pub within : last < length states

pub open_within : (states : List State) (n place left : ℕ) → visit_state states n ≡ Open place left → n < length states
open_within states n place left e = elim (cases_lt n (length states)) [
  | inl lt ↦ lt
  | inr past ↦ let new : visit_state states n ≡ New = get_or_past states n New past in cc
]

pub last_is : (reads : List (List ℕ)) (states : List State) (path order : List ℕ) (n last : ℕ) → IsSearchState reads states path order → n ≡ length path → slice_get path (n - 1) ≡ Some last → IsLast states path last
last_is reads states path order n last s long is =
    let within : n - 1 < length path = slice_get_within path (n - 1) last is in
    let stands : get_or path (length path - 1) 0 ≡ last = ap (λ (m : ℕ). get_or path (m - 1) 0) (sym long) ∙ get_or_from_slice_get path (n - 1) last 0 is in
    let o : (l : ℕ) × (visit_state states (get_or path (length path - 1) 0) ≡ Open (length path - 1) l) = s.on_path (length path - 1) (omega arith) in
    let state : visit_state states last ≡ Open (length path - 1) o.0 = ap (visit_state states) (sym stands) ∙ o.1 in
    record { any = omega arith; stands = stands; left = o.0; state = state; within = open_within states last _ _ state }

pub splits : (states : List State) (path : List ℕ) (last n : ℕ) → n ≡ length path → IsLast states path last → path ≡ take (n - 1) path ++ last ∷ []
splits states path last n long i =
    let any = i.any in
    let P : ℕ → Type 0 = λ m. path ≡ take (m - 1) path ++ last ∷ [] in
    let whole : take (length path - 1 + 1) path ≡ path = take_all (length path - 1 + 1) path (omega arith) in
    let more : take (length path - 1 + 1) path ≡ take (length path - 1) path ++ get_or path (length path - 1) 0 ∷ [] = take_more path (length path - 1) 0 (omega arith) in
    subst P (sym long) (sym whole ∙ more ∙ ap (λ (x : ℕ). take (length path - 1) path ++ x ∷ []) i.stands)

-- what a read of a state gives
pub state_is : (states : List State) (n : ℕ) (s : State) → n < length states → s ≡ get_or states n s → visit_state states n ≡ s
state_is states n s lt e = get_or_default states n New s lt ∙ sym e

pub less : (states : List State) (n : ℕ) (old new : State) → n < length states → visit_state states n ≡ old → work_of new < work_of old → sum_by work_of (set states n new) < sum_by work_of states
less states n old new lt e small =
    let total : sum_by work_of (set states n new) + work_of (visit_state states n) ≡ sum_by work_of states + work_of new = sum_by-set work_of states n new New lt in
    let is : work_of (visit_state states n) ≡ work_of old = ap work_of e in
    omega arith

pub stays_new : (states : List State) (n x : ℕ) (s : State) → n < length states → (s ≡ New → ⊥) → visit_state (set states n s) x ≡ New → visit_state states x ≡ New
stays_new states n x s lt ne e = elim (cases_eq x n) [
  | inl here ↦ absurd (ne (sym (get_or-set_same states n s New lt) ∙ sym (ap (visit_state (set states n s)) here) ∙ e))
  | inr other ↦ sym (get_or-set_other states n x s New other) ∙ e
]

pub seen : (states : List State) (n : ℕ) (s : State) → n < length states → (s ≡ New → ⊥) → visit_state (set states n s) n ≡ New → ⊥
seen states n s lt ne e = ne (sym (get_or-set_same states n s New lt) ∙ e)

-- what a number reads, by its place
pub read_is : (xs : List ℕ) (k read : ℕ) → k < length xs → read ≡ get_or xs k 0 → Contains xs read
read_is xs k read lt e = let P : ℕ → Type 0 = λ x. Contains xs x in subst P (sym e) (Contains-get_or xs k 0 lt)

-- an equal search holds the same
pub carried : (reads : List (List ℕ)) (self : Search) (states : List State) (path order : List ℕ) → self.states.items ≡ states → self.path.items ≡ path → self.order.items ≡ order → IsSearchState reads states path order → IsSearchState reads self.states.items self.path.items self.order.items
carried reads self states path order s p o h =
    let P : List State → Type 0 = λ x. IsSearchState reads x path order in
    let Q : List ℕ → Type 0 = λ x. IsSearchState reads self.states.items x order in
    let R : List ℕ → Type 0 = λ x. IsSearchState reads self.states.items self.path.items x in
    subst R (sym o) (subst Q (sym p) (subst P (sym s) h))

pub open_is_not_new : (p l : ℕ) → Open p l ≡ New → ⊥
open_is_not_new p l e = cc
