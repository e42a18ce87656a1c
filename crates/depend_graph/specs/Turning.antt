-- A circle of numbers, written from its least one.
use Rattle.std.specs.Prelude.{◌≡◌, ℕ, ◌<◌, ◌≤◌, ◌++◌, ◌∷◌, [], List, length, take, drop}
use Rattle.std.specs.Prelude.{slice_index, EachIndex}

-- from this place on to the end, from the beginning, and this place's number again
abbrev pub turned_at : ℕ → List ℕ → List ℕ
turned_at place circle = drop place circle ++ take place circle ++ slice_index circle place ∷ []

-- turned at a place of the least number
pub record TurnsToLeast (circle path : List ℕ) : Type 0 where
  pub place : ℕ
  pub within : place < length circle
  pub least : EachIndex circle (λ k. slice_index circle place ≤ slice_index circle k)
  pub turned : path ≡ turned_at place circle
