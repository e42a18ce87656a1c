-- How far a search has come: what holds between two of its steps.
use Rattle.std.specs.Prelude.{◌≡◌, ◌≢◌, ℕ, ◌+◌, ◌<◌, ◌≤◌, ◌^◌, List, length, take, slice_index}
use Rattle.std.specs.List.{AllPairs, Contains, slice_index_or}
use Rattle.depend_graph.specs.declared.state.State.{State}
use Rattle.depend_graph.specs.declared.state.State.TheVariants.{New, Open, Done}
use Rattle.depend_graph.specs.Lists.{nth_list}

-- the state of a number
abbrev pub visit_state : List State → ℕ → State
visit_state states n = slice_index_or states n New

-- at most how often the search still looks at a number and what it reads
abbrev pub work_of : State → ℕ
work_of New = 2 ^ 64 + 1
work_of (Open place left) = 1 + left
work_of Done = 0

-- an open number stands at its place of the path, and what it read before what is left is done
pub record IsOnPath (reads : List (List ℕ)) (states : List State) (path : List ℕ)
    (n place left : ℕ) : Type 0 where
  pub within : place < length path
  pub stands : slice_index path place ≡ n
  pub fits : left ≤ length (nth_list reads n)
  pub passed : (k : ℕ) → k + left < length (nth_list reads n)
      → visit_state states (slice_index (nth_list reads n) k) ≡ Done

-- the path is the open numbers, each of which reads the next; the order is the numbers that are
-- done, each behind all that it reads
pub record IsSearchState (reads : List (List ℕ)) (states : List State) (path order : List ℕ)
    : Type 0 where
  pub is_open : (n place left : ℕ) → visit_state states n ≡ Open place left
      → IsOnPath reads states path n place left
  pub on_path : (k : ℕ) → k < length path → (left : ℕ)
      × (visit_state states (slice_index path k) ≡ Open k left)
  pub steps : (k : ℕ) → k + 1 < length path → Contains (nth_list reads (slice_index path k))
      (slice_index path (k + 1))
  pub ordered : (k : ℕ) → k < length order → visit_state states (slice_index order k) ≡ Done
  pub done : (n : ℕ) → visit_state states n ≡ Done → Contains order n
  pub once : AllPairs (λ a b. a ≢ b) order
  pub behind : (k b : ℕ) → k < length order → Contains (nth_list reads (slice_index order k)) b
      → Contains (take k order) b
