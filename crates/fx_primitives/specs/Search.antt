-- Where a part stands in a text. Places are counted from 0, positions from 1.
use Rattle.std.specs.Prelude.{◌≡◌, ℕ, suc, ℤ, pos, ◌<◌, ◌≤◌, List, length, take, drop, Option, Some}
use Rattle.std.specs.Prelude.{None, Result, Ok, Err}
use Rattle.fx_types.specs.declared.faults.Kind.{Kind}
use Rattle.fx_types.specs.declared.faults.Kind.TheVariants.{InvalidArgument}

-- the part stands at this place: the slice of its length there is it
pub record StandsAt (part text : List ℕ) (place : ℕ) : Type 0 where
  pub within : place ≤ length text
  pub same : take (length part) (drop place text) ≡ part

-- it stands nowhere from a place on
abbrev pub StandsNowhere : List ℕ → List ℕ → ℕ → Type 0
StandsNowhere part text from = (k : ℕ) → from ≤ k → ¬ StandsAt part text k

-- the first place, from a place on, at which it stands
pub record IsFirstPlace (part text : List ℕ) (from place : ℕ) : Type 0 where
  pub behind : from ≤ place
  pub stands : StandsAt part text place
  pub first : (k : ℕ) → from ≤ k → k < place → ¬ StandsAt part text k

-- where it is found from a place on, if anywhere
abbrev pub IsFoundFrom : List ℕ → List ℕ → ℕ → Option ℕ → Type 0
IsFoundFrom part text from None = StandsNowhere part text from
IsFoundFrom part text from (Some place) = IsFirstPlace part text from place

-- the position of a place, if there is one
abbrev pub position_of : Option ℕ → Option ℕ
position_of None = None
position_of (Some place) = Some (suc place)

-- a position to search from, and its place: from 1 to the length and one more
abbrev pub IsSearchStart : List ℕ → ℤ → ℕ → Type 0
IsSearchStart text start place = (start ≡ pos (suc place)) × (place ≤ length text)

-- the answer of a search from a position on: the position of the first place at which the part
-- stands, nothing where there is none, and InvalidArgument where the search can't start there
abbrev pub IsFound : List ℕ → List ℕ → ℤ → Result (Option ℕ) Kind → Type 0
IsFound part text start (Ok found) = (from : ℕ) × (place : Option ℕ) × IsSearchStart text start from
    × IsFoundFrom part text from place × (found ≡ position_of place)
IsFound part text start (Err kind) = (kind ≡ InvalidArgument)
    × ((from : ℕ) → ¬ IsSearchStart text start from)
