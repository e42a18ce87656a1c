-- Which cells have to be brought up to date.
use Rattle.std.specs.Prelude.{◌≡◌, ◌⊎◌, ℕ, List, length, Bool, true, false, slice_index_or}
use Rattle.std.specs.List.{Contains}
use Rattle.recalc.specs.app_cells.declared.app.App.{App}
use Rattle.recalc.specs.app_semantics.Needed.{Needs, is_alone}
use Rattle.recalc.specs.Kept.{IsClean, CacheState, Leans}

-- a cell is needed for one of these
abbrev pub IsNeededFor : App → List ℕ → ℕ → Type 0
IsNeededFor a roots k = (r : ℕ) × Contains roots r × Needs a r k

abbrev pub is_marked : List Bool → ℕ → Bool
is_marked marks k = slice_index_or marks k false

-- marked are these cells, and what a marked one leans on that isn't clean; and they are needed
pub record AreMarked (a : App) (c : CacheState) (roots : List ℕ) (marks : List Bool) : Type 0 where
  pub long : length marks ≡ length a.cells
  pub top : (k : ℕ) → Contains roots k → is_marked marks k ≡ true
  pub closed : (k d : ℕ) → is_marked marks k ≡ true → (IsClean a c k → ⊥) → Leans a k d
      → is_marked marks d ≡ true
  pub alone : (k : ℕ) → is_marked marks k ≡ true → is_alone a.cells k ≡ true
  pub needed : (k : ℕ) → is_marked marks k ≡ true → IsNeededFor a roots k

-- a cell was visited: what it leans on is marked, where it is marked and isn't clean, and nothing
-- else is that wasn't
pub record IsVisited (a : App) (c : CacheState) (k : ℕ) (old new : List Bool) : Type 0 where
  pub long : length new ≡ length old
  pub still : (d : ℕ) → is_marked old d ≡ true → is_marked new d ≡ true
  pub marked : (d : ℕ) → is_marked old k ≡ true → (IsClean a c k → ⊥) → Leans a k d
      → is_marked new d ≡ true
  pub only : (d : ℕ) → is_marked new d ≡ true
      → (is_marked old d ≡ true) ⊎ ((is_marked old k ≡ true) × Leans a k d)

-- a cell is marked, or one leans on it that is reached from a marked one
pub data IsReachedFrom (a : App) (marks : List Bool) : ℕ → Type 0 where
  marked : (k : ℕ) → is_marked marks k ≡ true → IsReachedFrom a marks k
  leaned : (k d : ℕ) → IsReachedFrom a marks k → Leans a k d → IsReachedFrom a marks d

-- marked are those that were, and what a marked one leans on that isn't clean; each of them is
-- reached from one that was
pub record LeadsTo (a : App) (c : CacheState) (old new : List Bool) : Type 0 where
  pub long : length new ≡ length old
  pub still : (k : ℕ) → is_marked old k ≡ true → is_marked new k ≡ true
  pub closed : (k d : ℕ) → is_marked new k ≡ true → (IsClean a c k → ⊥) → Leans a k d
      → is_marked new d ≡ true
  pub from : (k : ℕ) → is_marked new k ≡ true → IsReachedFrom a old k
