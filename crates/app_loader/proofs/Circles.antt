-- Where formulas stand in an order, they don't lean on one another in a circle.
use Rattle.std.proofs.Common.{◌≡◌, ℕ, zero, suc, ◌+◌, ◌-◌, ◌<◌, ◌++◌, List, [], ◌∷◌, Option, Some, None, length, get_or, take, refl, ap, sym, ◌∙◌, subst, inl, inr, ◌⊎◌, arith}
use Rattle.std.proofs.lemmas.List.{get_or-take, get_or_default, length-take}
use Rattle.std.proofs.lemmas.Bool.{cases_lt}
use Rattle.std.specs.Borrow.{Bor}
use Rattle.std.specs.List.{Contains}
use Rattle.depend_graph.specs.Order.{IsClosedPath, IsOrder}
use Rattle.fx_core.specs.declared.names.Names.{Names}
use Rattle.fx_core.specs.declared.signatures.Signature.{Signature}
use Rattle.fx_core.specs.declared.sources.Source.{Source}
use Rattle.fx_core.specs.declared.sources.Source.TheVariants as source
use Rattle.app_cells.specs.declared.app.CellInfo.{CellInfo}
use Rattle.app_cells.specs.Leaning.{cell_behind, edge_to, edges_by, edges_from, edges_of}
use Rattle.app_loader.proofs.Rounds.{functions_at}

-- ---- the edges don't name the table of functions
pub behind_alike : (n : Names) (t : Bor (List Signature)) (s : Source) → cell_behind (functions_at n t) s ≡ cell_behind n s
behind_alike n t (source.Cell k) = refl
behind_alike n t (source.Input k) = refl
behind_alike n t (source.Chosen k) = refl
behind_alike n t (source.Global k) = refl
behind_alike n t (source.Context k) = refl
behind_alike n t (source.Gathered k) = refl
behind_alike n t (source.Table k) = refl
behind_alike n t source.Today = refl

by_alike : (n : Names) (t : Bor (List Signature)) (k : ℕ) (ss : List Source) → edges_by (functions_at n t) k ss ≡ edges_by n k ss
by_alike n t k [] = refl
by_alike n t k (s ∷ ss) = λ i. edge_to k (behind_alike n t s i) ++ by_alike n t k ss i

from_alike : (n : Names) (t : Bor (List Signature)) (k : ℕ) (is : List CellInfo) → edges_from (functions_at n t) k is ≡ edges_from n k is
from_alike n t k [] = refl
from_alike n t k (c ∷ is) = λ i. by_alike n t k c.reads i ++ from_alike n t (suc k) is i

pub edges_alike : (n : Names) (t : Bor (List Signature)) (is : List CellInfo) → edges_of (functions_at n t) is ≡ edges_of n is
edges_alike n t is = from_alike n t 0 is

-- ---- each edge begins at a formula
-- an edge is one of these
abbrev IsEdge : ℕ × ℕ → List (ℕ × ℕ) → Type 0
IsEdge e [] = ⊥
IsEdge e (x ∷ xs) = (x ≡ e) ⊎ IsEdge e xs

edge_at : (xs : List (ℕ × ℕ)) (k : ℕ) (d e : ℕ × ℕ) → k < length xs → get_or xs k d ≡ e → IsEdge e xs
edge_at [] k d e l g = absurd (omega arith)
edge_at (x ∷ xs) zero d e l g = inl g
edge_at (x ∷ xs) (suc k) d e l g = inr (edge_at xs k d e (omega arith) g)

edge_either : (e : ℕ × ℕ) (xs ys : List (ℕ × ℕ)) → IsEdge e (xs ++ ys) → IsEdge e xs ⊎ IsEdge e ys
edge_either e [] ys h = inr h
edge_either e (x ∷ xs) ys (inl h) = inl (inl h)
edge_either e (x ∷ xs) ys (inr h) = elim (edge_either e xs ys h) [ inl a ↦ inl (inr a) | inr b ↦ inr b ]

edge_begins : (k : ℕ) (o : Option ℕ) (e : ℕ × ℕ) → IsEdge e (edge_to k o) → e.0 ≡ k
edge_begins k None e h = absurd h
edge_begins k (Some d) e (inl h) = ap (λ (z : ℕ × ℕ). z.0) (sym h)
edge_begins k (Some d) e (inr h) = absurd h

by_begins : (n : Names) (k : ℕ) (ss : List Source) (e : ℕ × ℕ) → IsEdge e (edges_by n k ss) → e.0 ≡ k
by_begins n k [] e h = absurd h
by_begins n k (s ∷ ss) e h =
    elim (edge_either e (edge_to k (cell_behind n s)) (edges_by n k ss) h) [
      | inl a ↦ edge_begins k (cell_behind n s) e a
      | inr b ↦ by_begins n k ss e b
    ]

from_begins : (n : Names) (k : ℕ) (is : List CellInfo) (e : ℕ × ℕ) → IsEdge e (edges_from n k is) → e.0 < k + length is
from_begins n k [] e h = absurd h
from_begins n k (c ∷ is) e h =
    elim (edge_either e (edges_by n k c.reads) (edges_from n (suc k) is) h) [
      | inl a ↦ let at : e.0 ≡ k = by_begins n k c.reads e a in omega arith
      | inr b ↦ let more : e.0 < suc k + length is = from_begins n (suc k) is e b in omega arith
    ]

-- ---- no path is closed
-- a number of a list, by its place
found_at : (xs : List ℕ) (x k : ℕ) → k < length xs → get_or xs k x ≡ x → get_or xs k 0 ≡ x
found_at xs x k lt e = get_or_default xs k 0 x lt ∙ e

nowhere : (edges : List (ℕ × ℕ)) (order path : List ℕ) (behind : (k b : ℕ) → k < length order → Contains edges (get_or order k 0, b) → Contains (take k order) b) → IsClosedPath edges path
    → (f j i : ℕ) → j < f → j < length order → i + 1 < length path → get_or order j 0 ≡ get_or path i 0 → ⊥
nowhere edges order path behind p zero j i small within lt e = omega arith
nowhere edges order path behind p (suc f) j i small within lt e =
    let next : ℕ = get_or path (i + 1) 0 in
    let P : ℕ → Type 0 = λ a. Contains edges (a, next) in
    let there : Contains (take j order) next = behind j next within (subst P (sym e) (p.steps i lt)) in
    let k : ℕ = there.0 in
    let short : k < length (take j order) = there.1 in
    let before : k < j = omega (arith, length-take j order) in
    let at : get_or order k 0 ≡ next = sym (get_or-take j order k 0 before) ∙ found_at (take j order) next k short there.2 in
    elim (cases_lt (i + 2) (length path)) [
      | inl more ↦ nowhere edges order path behind p f k (i + 1) (omega arith) (omega arith) (omega arith) at
      | inr end ↦
          let last : length path - 1 ≡ i + 1 = omega arith in
          let Q : ℕ → Type 0 = λ m. get_or path m 0 ≡ get_or path 0 0 in
          nowhere edges order path behind p f k 0 (omega arith) (omega arith) (omega (arith, p.long)) (at ∙ subst Q last p.closed)
    ]

pub no_circle : (n : Names) (is : List CellInfo) (order path : List ℕ) → IsOrder (length is) (edges_of n is) order → IsClosedPath (edges_of n is) path → ⊥
no_circle n is order path o p =
    let edges = edges_of n is in
    let first : ℕ = get_or path 0 0 in
    let step : Contains edges (first, get_or path 1 0) = p.steps 0 (omega (arith, p.long)) in
    let small : first < 0 + length is = from_begins n 0 is (first, get_or path 1 0) (edge_at edges step.0 (first, get_or path 1 0) (first, get_or path 1 0) step.1 step.2) in
    let there : Contains order first = (o.all first).1 (omega arith) in
    nowhere edges order path o.behind p (suc there.0) there.0 0 (omega arith) there.1 (omega (arith, p.long)) (found_at order first there.0 there.1 there.2)
