-- What passes from all that a number reads to the number itself holds of every number, where there is an order.
use Rattle.std.proofs.Common.{◌≡◌, ℕ, zero, suc, ◌+◌, ◌<◌, List, [], ◌∷◌, ◌++◌, length, get_or, take, Some, sym, ◌∙◌, subst, refl, ap, inl, inr, arith}
use Rattle.std.proofs.lemmas.List.{length-take, get_or-take, get_or_default}
use Rattle.std.proofs.lemmas.List.Elements.{Contains-append_left, Contains-append_right}
use Rattle.std.specs.List.{Contains, slice_get}
use Rattle.app_cells.specs.Leaning.{LeansOn, cell_behind, edge_to, edges_by, edges_from, edges_of}
use Rattle.app_cells.specs.declared.app.CellInfo.{CellInfo}
use Rattle.depend_graph.specs.Order.{IsOrder}
use Rattle.fx_core.specs.Reads.{IsAmong}
use Rattle.fx_core.specs.declared.names.Names.{Names}
use Rattle.fx_core.specs.declared.sources.Source.{Source}

found_at : (xs : List ℕ) (x k : ℕ) → k < length xs → get_or xs k x ≡ x → get_or xs k 0 ≡ x
found_at xs x k lt e = get_or_default xs k 0 x lt ∙ e

-- a number that stands before a place of the order
pub earlier : (order : List ℕ) (j b : ℕ) → Contains (take j order) b → (i : ℕ) × (i < j) × (i < length order) × (get_or order i 0 ≡ b)
earlier order j b there =
    let i : ℕ = there.0 in
    let before : i < j = omega (arith, length-take j order, there.1) in
    (i, before, omega (arith, length-take j order, there.1), sym (get_or-take j order i 0 before) ∙ found_at (take j order) b i there.1 there.2)

up_to : (count : ℕ) (edges : List (ℕ × ℕ)) (order : List ℕ) → IsOrder count edges order → (P : ℕ → Type 0) →
    ((k : ℕ) → k < count → ((d : ℕ) → Contains edges (k, d) → P d) → P k) → (n j : ℕ) → j < n → j < length order → P (get_or order j 0)
up_to count edges order o P step zero j l h = absurd (omega (arith, l))
up_to count edges order o P step (suc n) j l h =
    let k : ℕ = get_or order j 0 in
    step k ((o.all k).0 (j, h, get_or_default order j k 0 h)) (λ d e.
    let b = earlier order j d (o.behind j d h e) in
    subst P b.3 (up_to count edges order o P step n b.0 (omega (arith, b.1, l)) b.2))

pub by_order : (count : ℕ) (edges : List (ℕ × ℕ)) (order : List ℕ) → IsOrder count edges order → (P : ℕ → Type 0) →
    ((k : ℕ) → k < count → ((d : ℕ) → Contains edges (k, d) → P d) → P k) → (k : ℕ) → k < count → P k
by_order count edges order o P step k h =
    let there : Contains order k = (o.all k).1 h in
    subst P (found_at order k there.0 there.1 there.2) (up_to count edges order o P step (suc there.0) there.0 (omega arith) there.1)

-- ---- edges
at_head : (e : ℕ × ℕ) (es : List (ℕ × ℕ)) → Contains (e ∷ es) e
at_head e es = (0, omega arith, refl)

by_reads : (n : Names) (k d : ℕ) (s : Source) (ss : List Source) → IsAmong s ss → cell_behind n s ≡ Some d → Contains (edges_by n k ss) (k, d)
by_reads n k d s [] a e = absurd a
by_reads n k d s (x ∷ ss) (inl same) e =
    let here : cell_behind n x ≡ Some d = ap (cell_behind n) same ∙ e in
    Contains-append_left (edge_to k (cell_behind n x)) (edges_by n k ss) (k, d) (subst (λ o. Contains (edge_to k o) (k, d)) (sym here) (at_head (k, d) []))
by_reads n k d s (x ∷ ss) (inr a) e = Contains-append_right (edge_to k (cell_behind n x)) (edges_by n k ss) (k, d) (by_reads n k d s ss a e)

from : (n : Names) (first i k : ℕ) (cs : List CellInfo) (c : CellInfo) (d : ℕ) → k ≡ i + first → slice_get cs i ≡ Some c → LeansOn n c d → Contains (edges_from n first cs) (k, d)
from n first i k [] c d p e h = absurd cc
from n first zero k (x ∷ cs) c d p e h =
    let same : x ≡ c = cc in
    let there : Contains (edges_by n first x.reads) (first, d) = by_reads n first d h.0 x.reads (subst (λ (y : CellInfo). IsAmong h.0 y.reads) (sym same) h.1) h.2 in
    let place : first ≡ k = omega (arith, p) in
    subst (λ i. Contains (edges_by n first x.reads ++ edges_from n (suc first) cs) (i, d)) place (Contains-append_left (edges_by n first x.reads) (edges_from n (suc first) cs) (first, d) there)
from n first (suc i) k (x ∷ cs) c d p e h =
    Contains-append_right (edges_by n first x.reads) (edges_from n (suc first) cs) (k, d) (from n (suc first) i k cs c d (omega (arith, p)) e h)

-- what a cell leans on is an edge
pub leaning_edge : (n : Names) (cs : List CellInfo) (k : ℕ) (c : CellInfo) (d : ℕ) → slice_get cs k ≡ Some c → LeansOn n c d → Contains (edges_of n cs) (k, d)
leaning_edge n cs k c d e h =
    from n 0 k k cs c d (omega arith) e h
