-- Which trees with calls become a tree without, and that it is one.
use Rattle.std.specs.Prelude.{◌≡◌, ℕ, List, length}
use Rattle.depend_graph.specs.Order.{IsOrder}
use Rattle.fx_core.specs.Term.{Term}
use Rattle.fx_udf.specs.Calling.{calls_in}
use Rattle.fx_udf.specs.Expanding.{AllCallable, Expands, IsCallable}

-- where a tree stands, it becomes one tree at most
abbrev pub OneExpansion : Type 0
OneExpansion = (A : List (List (List ℕ))) (bodies : List Term) (b d : ℕ) (t c e : Term)
    → Expands A bodies b d t c → Expands A bodies b d t e → c ≡ e

-- where functions have an order, a tree becomes one whose calls have an argument for each parameter
abbrev pub AllHaveExpansions : Type 0
AllHaveExpansions = (A : List (List (List ℕ))) (bodies : List Term) (order : List ℕ)
    → IsOrder (length bodies) (calls_in bodies) order → AllCallable A bodies
    → (b d : ℕ) (t : Term) → IsCallable A bodies t → (c : Term) × Expands A bodies b d t c
