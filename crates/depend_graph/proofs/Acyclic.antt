-- Where there is an order, no path is closed: what a number reads stands at an earlier place.
use Rattle.std.proofs.Common.{◌≡◌, ℕ, zero, suc, ◌+◌, ◌-◌, ◌<◌, List, length, get_or, take, sym, ◌∙◌, subst, inl, inr, arith}
use Rattle.std.proofs.lemmas.List.{length-take, get_or-take, get_or_default}
use Rattle.std.proofs.lemmas.Bool.{cases_lt}
use Rattle.std.specs.List.{Contains}
use Rattle.depend_graph.specs.Order.{AreBelow, IsOrder, IsClosedPath, IsAcyclic}

-- a number of a list, by its place
found_at : (xs : List ℕ) (x k : ℕ) → k < length xs → get_or xs k x ≡ x → get_or xs k 0 ≡ x
found_at xs x k lt e = get_or_default xs k 0 x lt ∙ e

nowhere : (edges : List (ℕ × ℕ)) (order path : List ℕ) (behind : (k b : ℕ) → k < length order → Contains edges (get_or order k 0, b) → Contains (take k order) b) → IsClosedPath edges path → (f j i : ℕ) → j < f → j < length order → i + 1 < length path → get_or order j 0 ≡ get_or path i 0 → ⊥
nowhere edges order path behind p zero j i small within lt e = omega arith
nowhere edges order path behind p (suc f) j i small within lt e =
    let next : ℕ = get_or path (i + 1) 0 in
    let P : ℕ → Type 0 = λ a. Contains edges (a, next) in
    let there : Contains (take j order) next = behind j next within (subst P (sym e) (p.steps i lt)) in
    let k : ℕ = there.0 in
    let short : k < length (take j order) = there.1 in
    let before : k < j = omega (arith, length-take j order) in
    let at : get_or order k 0 ≡ next = sym (get_or-take j order k 0 before) ∙ found_at (take j order) next k short there.2 in
    elim (cases_lt (i + 2) (length path)) [
      | inl more ↦ nowhere edges order path behind p f k (i + 1) (omega arith) (omega arith) (omega arith) at
      | inr end ↦
          let last : length path - 1 ≡ i + 1 = omega arith in
          let Q : ℕ → Type 0 = λ m. get_or path m 0 ≡ get_or path 0 0 in
          nowhere edges order path behind p f k 0 (omega arith) (omega arith) (omega (arith, p.long)) (at ∙ subst Q last p.closed)
    ]

pub acyclic : (count : ℕ) (edges : List (ℕ × ℕ)) (order : List ℕ) → AreBelow count edges → IsOrder count edges order → IsAcyclic edges
acyclic count edges order below o path p =
    let first : ℕ = get_or path 0 0 in
    let step : Contains edges (first, get_or path 1 0) = p.steps 0 (omega (arith, p.long)) in
    let small : first < count =
    let e : get_or edges step.0 (first, get_or path 1 0) ≡ (first, get_or path 1 0) = step.2 in
    let P : (ℕ × ℕ) → Type 0 = λ x. x.0 < count in
    subst P e (below step.0 (first, get_or path 1 0) step.1).0 in
    let there : Contains order first = (o.all first).1 small in
    nowhere edges order path o.behind p (suc there.0) there.0 0 (omega arith) there.1 (omega (arith, p.long)) (found_at order first there.0 there.1 there.2)
