-- What changes of sources do to what is kept.
use Rattle.std.specs.Prelude.{◌≡◌, ◌+◌, ◌<◌, ◌≤◌, ◌^◌, ℕ, List, [], ◌∷◌, length, false, Some, None}
use Rattle.std.specs.Prelude.{slice_get, slice_set}
use Rattle.fx_types.specs.Types.{Shape}
use Rattle.fx_types.specs.Values.{Data}
use Rattle.fx_core.specs.Reads.{IsAmong}
use Rattle.fx_core.specs.SourceTypes.{sources}
use Rattle.fx_core.specs.declared.sources.Source.{Source}
use Rattle.recalc.specs.Asking.{ToldRows}
use Rattle.recalc.specs.app_cells.Leaning.{LeansOn}
use Rattle.recalc.specs.app_cells.Reach.{Reaches, is_cell}
use Rattle.recalc.specs.app_cells.declared.app.App.{App}
use Rattle.recalc.specs.app_cells.declared.app.CellInfo.{CellInfo}
use Rattle.recalc.specs.app_semantics.Present.{SourceGives, Present, present}
use Rattle.row_queries.specs.declared.rows.Row.{Row}
use Rattle.session_state.specs.Sessions.{SessionState}
use Rattle.recalc.specs.Kept.{HasNumbersLeft, IsClean, IsInOrder, IsRight, CacheState, source_index}
use Rattle.recalc.specs.Kept.{stamp_of}
use Rattle.recalc.specs.Outcomes.{IsOneMore}

-- rows that are told now were told before
abbrev pub WereTold : ToldRows → ToldRows → Type 0
WereTold before after = (rows : List (List Row)) → after ≡ Some rows
    → (old : List (List Row)) × (before ≡ Some old)

-- Two presents in which nothing but these sources, and cells, gives anything else. A variable is
-- global or a screen's: under the other kind it has no type.
pub record AreSameBut (xs : List Source) (p q : Present) : Type 0 where
  pub told : WereTold p.tables q.tables
  pub gives : (s : Source) (t : Shape) (values : ℕ → Data) (v : Data)
      → sources p.app.names s ≡ Some t → (IsAmong s xs → ⊥) → is_cell s ≡ false
      → SourceGives p values s v → SourceGives q values s v

-- on another day
abbrev pub on_day : CacheState → Data → CacheState
on_day c d = record c { values = record { cells = c.values.cells; day = d } }

-- a source has the next number as that of its last change
abbrev pub raised : CacheState → Source → CacheState
raised c s = record c {
  last = c.last + 1;
  versions = slice_set c.versions (source_index s)
      (c.last + 1);
}

-- a cell reaches none of these sources
abbrev pub ReachesNone : App → List Source → ℕ → Type 0
ReachesNone a xs k = (s : Source) → IsAmong s xs → Reaches a k s → ⊥

-- A CELL REACHES ANOTHER: it is that one, or leans on a cell that reaches it
pub data ReachesCell (a : App) : ℕ → ℕ → Type 0 where
  itself : (k : ℕ) → ReachesCell a k k
  through : (k d x : ℕ) (c : CellInfo) → slice_get a.cells k ≡ Some c → LeansOn a.names c d
      → ReachesCell a d x → ReachesCell a k x

-- CLEAN CELLS ARE LEFT SO, but those that reach one of these sources. Where it was counted that the
-- numbers ran out on the way, nothing is said of them; the count stands still at its end.
pub record StaysCleanExcept (a : App) (xs : List Source) (old new : CacheState) : Type 0 where
  pub emptied : old.emptied ≤ new.emptied
  pub left : new.emptied ≡ old.emptied → old.emptied + 1 < 2 ^ 64 → (k : ℕ) → ReachesNone a xs k
      → IsClean a old k → IsClean a new k

-- A SOURCE THAT IS NO CELL WAS TOUCHED: what is kept is right where it was still to be told; and,
-- unless the numbers ran out, exactly the cells that reach it are clean no more, and nothing but
-- the number of its last change is another one.
pub record IsTouched (a : App) (source : Source) (old new : CacheState) : Type 0 where
  pub order : IsInOrder a old → IsInOrder a new
  pub right : (s : SessionState) (tables : ToldRows) (m : ℕ) (pending : List Source)
      → IsRight (present a s tables m) (source ∷ pending) old
      → IsRight (present a s tables m) pending new
  pub cleared : HasNumbersLeft old.last → IsInOrder a old → (k : ℕ) → Reaches a k source
      → IsClean a new k → ⊥
  pub left : HasNumbersLeft old.last → (k : ℕ) → (Reaches a k source → ⊥) → IsClean a old k
      → IsClean a new k
  pub none : HasNumbersLeft old.last → IsInOrder a old → (k : ℕ) → IsClean a new k → IsClean a old k
  pub only : HasNumbersLeft old.last → new ≡ raised old source
  pub but : StaysCleanExcept a (source ∷ []) old new
  pub places : length new.versions ≡ length old.versions
  pub day : new.values.day ≡ old.values.day

-- A CELL WAS TOUCHED: no cell that reaches it is kept any more; and, unless the numbers ran out,
-- all others are as they were. What is kept is right where it was.
pub record IsCellTouched (a : App) (cell : ℕ) (old new : CacheState) : Type 0 where
  pub order : IsInOrder a new
  pub right : (s : SessionState) (tables : ToldRows) (m : ℕ) (pending : List Source)
      → IsRight (present a s tables m) pending old → IsRight (present a s tables m) pending new
  pub gone : (k : ℕ) → ReachesCell a k cell → stamp_of new k ≡ None
  pub left : HasNumbersLeft old.last → (k : ℕ) → (ReachesCell a k cell → ⊥)
      → stamp_of new k ≡ stamp_of old k
  pub kept : HasNumbersLeft old.last → (new.versions ≡ old.versions) × (new.last ≡ old.last)
      × (new.emptied ≡ old.emptied)
  pub counted : (HasNumbersLeft old.last → ⊥) → IsOneMore old.emptied new.emptied
  pub values : new.values ≡ old.values
  pub places : length new.versions ≡ length old.versions
