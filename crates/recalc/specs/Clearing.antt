-- Stamps are taken away from the cells that reach one: by the order each of them is marked, and
-- then the marks go.
use Rattle.std.specs.Prelude.{◌≡◌, ◌⊎◌, ◌^◌, ◌-◌, ℕ, Bool, true, false, Option, Some, None}
use Rattle.std.specs.Prelude.{if◌then◌else◌, length, nat_eq, slice_get, slice_set}
use Rattle.recalc.specs.app_cells.Leaning.{LeansOn}
use Rattle.recalc.specs.app_cells.declared.app.App.{App}
use Rattle.recalc.specs.app_cells.declared.app.CellInfo.{CellInfo}
use Rattle.recalc.specs.Changes.{ReachesCell}
use Rattle.recalc.specs.Kept.{CacheState, stamp_of}
use Rattle.recalc.specs.declared.stamps.Stamp.{Stamp}

-- the greatest number, which no cell is given
abbrev pub greatest_stamp : ℕ
greatest_stamp = 2 ^ 64 - 1

-- a stamp that is a mark
abbrev pub is_mark_stamp : Option Stamp → Bool
is_mark_stamp (Some e) = nat_eq e.checked greatest_stamp
is_mark_stamp None = false

-- a stamp, and none for a mark
abbrev pub stamp_unmarked : Option Stamp → Option Stamp
stamp_unmarked o = if is_mark_stamp o then None else o

-- a cell is marked
abbrev pub is_marked_cell : CacheState → ℕ → Bool
is_marked_cell c k = is_mark_stamp (stamp_of c k)

-- it was marked
abbrev pub marked : CacheState → ℕ → CacheState
marked c k = record c {
  stamps = slice_set c.stamps k
      (Some (record { checked = greatest_stamp; moved = greatest_stamp }));
}

-- a cell is this one, or leans on one that is marked
abbrev pub IsToMark : App → ℕ → CacheState → ℕ → Type 0
IsToMark a x c k = (k ≡ x) ⊎ ((i : CellInfo) × (d : ℕ) × (slice_get a.cells k ≡ Some i)
    × LeansOn a.names i d × (is_marked_cell c d ≡ true))

-- such a cell was marked, and any other was left
abbrev pub IsMarkedIf : App → ℕ → ℕ → CacheState → CacheState → Type 0
IsMarkedIf a x k old new = (IsToMark a x old k × (new ≡ marked old k))
    ⊎ ((IsToMark a x old k → ⊥) × (new ≡ old))

-- THE MARKS WENT, and nothing else
pub record AreUnmarked (old new : CacheState) : Type 0 where
  pub each : (k : ℕ) → stamp_of new k ≡ stamp_unmarked (stamp_of old k)
  pub rest : new ≡ record old { stamps = new.stamps }
  pub long : length new.stamps ≡ length old.stamps

-- EXACTLY THE STAMPS OF THE CELLS THAT REACH THIS ONE WENT
pub record AreCleared (a : App) (x : ℕ) (old new : CacheState) : Type 0 where
  pub gone : (k : ℕ) → ReachesCell a k x → stamp_of new k ≡ None
  pub left : (k : ℕ) → (ReachesCell a k x → ⊥) → stamp_of new k ≡ stamp_of old k
  pub rest : new ≡ record old { stamps = new.stamps }
  pub long : length new.stamps ≡ length old.stamps
