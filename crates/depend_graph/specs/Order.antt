-- Numbers that read one another. An edge (a, b) says that a reads b.
use Rattle.std.specs.Prelude.{◌≡◌, ◌≢◌, ℕ, ◌+◌, ◌-◌, ◌<◌, ◌≤◌, ◌↔◌, List, length, take, slice_index}
use Rattle.std.specs.List.{All, AllPairs, Contains}

-- all numbers of the edges are below this count
abbrev pub AreBelow : ℕ → List (ℕ × ℕ) → Type 0
AreBelow count edges = All (λ e. (e.0 < count) × (e.1 < count)) edges

-- the order has every number below the count once, and before each stands all that it reads
pub record IsOrder (count : ℕ) (edges : List (ℕ × ℕ)) (order : List ℕ) : Type 0 where
  pub all : (n : ℕ) → Contains order n ↔ (n < count)
  pub once : AllPairs (λ a b. a ≢ b) order
  pub behind : (k b : ℕ) → k < length order → Contains edges (slice_index order k, b)
      → Contains (take k order) b

-- a path of one step at least, which begins and ends with its least number
pub record IsCircle (Reads : ℕ → ℕ → Type 0) (path : List ℕ) : Type 0 where
  pub long : 1 < length path
  pub steps : (k : ℕ) → k + 1 < length path → Reads (slice_index path k) (slice_index path (k + 1))
  pub closed : slice_index path (length path - 1) ≡ slice_index path 0
  pub least : All (λ n. slice_index path 0 ≤ n) path

-- a closed path along edges
abbrev pub IsClosedPath : List (ℕ × ℕ) → List ℕ → Type 0
IsClosedPath edges = IsCircle (λ a b. Contains edges (a, b))

-- no path is closed
abbrev pub IsAcyclic : List (ℕ × ℕ) → Type 0
IsAcyclic edges = (path : List ℕ) → ¬ IsClosedPath edges path
