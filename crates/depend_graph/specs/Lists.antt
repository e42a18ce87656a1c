-- For each number a list of others.
use Rattle.std.specs.Prelude.{◌≡◌, ◌⊎◌, ℕ, ◌<◌, ◌↔◌, List, [], map, Vec}
use Rattle.std.specs.declared.alloc.Global.{Global}
use Rattle.std.specs.List.{All, Contains, slice_index_or}

-- what the lists hold
abbrev pub lists_of : List (Vec ℕ Global) → List (List ℕ)
lists_of lists = map (λ v. v.items) lists

-- the list at a place
abbrev pub nth_list : List (List ℕ) → ℕ → List ℕ
nth_list lists place = slice_index_or lists place []

-- all items are below this count
abbrev pub HoldBelow : ℕ → List (List ℕ) → Type 0
HoldBelow count lists = (place : ℕ) → All (λ n. n < count) (nth_list lists place)

-- each list at one of these places got the item, and no list got anything else
abbrev pub AddsEach : List ℕ → ℕ → List (List ℕ) → List (List ℕ) → Type 0
AddsEach places item old new = (place n : ℕ) → Contains (nth_list new place) n
    ↔ (Contains (nth_list old place) n ⊎ (Contains places place × (n ≡ item)))

-- b has the reader a exactly where an edge says that a reads b
abbrev pub AreReaders : List (ℕ × ℕ) → List (List ℕ) → Type 0
AreReaders edges readers = (a b : ℕ) → Contains (nth_list readers b) a ↔ Contains edges (a, b)

-- a reads b exactly where b has the reader a
abbrev pub AreTurned : List (List ℕ) → List (List ℕ) → Type 0
AreTurned readers reads = (a b : ℕ) → Contains (nth_list reads a) b
    ↔ Contains (nth_list readers b) a
