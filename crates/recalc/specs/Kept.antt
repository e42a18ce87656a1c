-- Kept values, and the numbers by which it is known which of them stand.
use Rattle.std.specs.Prelude.{◌≡◌, ◌+◌, ◌*◌, ◌<◌, ◌≤◌, ◌^◌, ℕ, List, [], length, true, false}
use Rattle.std.specs.Prelude.{Option, Some, None, slice_get, slice_index, slice_index_or}
use Rattle.fx_types.specs.Values.{Data, blank}
use Rattle.fx_core.specs.Reads.{IsAmong, source_number, source_rank}
use Rattle.fx_core.specs.declared.names.Names.{Names}
use Rattle.fx_core.specs.declared.sources.Source.{Source}
use Rattle.fx_core.specs.declared.sources.Source.TheVariants as source
use Rattle.recalc.specs.Values.{CellsFit, CellValues}
use Rattle.recalc.specs.Values as values
use Rattle.recalc.specs.app_cells.Leaning.{LeansOn}
use Rattle.recalc.specs.app_cells.Reach.{Reaches, is_cell}
use Rattle.recalc.specs.app_cells.declared.app.App.{App}
use Rattle.recalc.specs.app_cells.declared.app.CellInfo.{CellInfo}
use Rattle.recalc.specs.app_semantics.Fresh.{IsCellValue}
use Rattle.recalc.specs.app_semantics.Needed.{IsFreshAt, is_alone}
use Rattle.recalc.specs.app_semantics.Present.{Present}
use Rattle.recalc.specs.declared.stamps.Stamp.{Stamp}

-- ROOM for what will be kept of an edited app: for so many numbers of changes, stamps and values
pub record CacheRoom : Type 0 where
  pub versions : ℕ
  pub stamps : ℕ
  pub values : ℕ

-- A CACHE: how often all numbers were given anew; the last number that was given; by the place of
-- each source, the number of its last change; of each cell that is kept the stamp; the values of
-- all cells, with the day; and the room beside them.
pub record CacheState : Type 0 where
  pub emptied : ℕ
  pub last : ℕ
  pub versions : List ℕ
  pub stamps : List (Option Stamp)
  pub values : CellValues
  pub room : CacheRoom

-- there is none
abbrev pub no_cache_room : CacheRoom
no_cache_room = record { versions = 0; stamps = 0; values = 0 }

abbrev pub cached_value : CacheState → ℕ → Data
cached_value c = values.value_of c.values

-- the stamp of a cell, where it is kept
abbrev pub stamp_of : CacheState → ℕ → Option Stamp
stamp_of c k = slice_index_or c.stamps k None

-- ---- versions of sources

-- the place of a source: those of one kind stand eight apart
abbrev pub source_index : Source → ℕ
source_index s = source_number s * 8 + source_rank s

-- the number of its last change
abbrev pub version_of : CacheState → Source → ℕ
version_of c s = slice_index c.versions (source_index s)

-- the sources, cells aside, that there are under names
abbrev pub IsSourceOf : Names → Source → Type 0
IsSourceOf n (source.Cell k) = ⊥
IsSourceOf n (source.Global k) = k < length n.variables
IsSourceOf n (source.Context k) = k < length n.variables
IsSourceOf n (source.Gathered k) = k < length n.collections
IsSourceOf n (source.Input k) = k < length n.controls
IsSourceOf n (source.Chosen k) = k < length n.controls
IsSourceOf n (source.Table k) = k < length n.schema.tables
IsSourceOf n source.Today = Unit {0}

-- room for an app: for each of its cells and sources
pub record IsRoomFor (a : App) (r : CacheRoom) : Type 0 where
  pub few : length a.cells ≤ 2000
  pub places : (s : Source) → IsSourceOf a.names s → source_index s < r.versions
  pub stamps : length a.cells ≤ r.stamps
  pub values : length a.cells ≤ r.values

-- ---- what stands

-- no source that the cell reaches changed after this number
abbrev pub IsCurrent : App → CacheState → ℕ → ℕ → Type 0
IsCurrent a c k n = (s : Source) → is_cell s ≡ false → Reaches a k s → version_of c s ≤ n

-- CLEAN: it is kept, and no source that it reaches changed since it was checked
abbrev pub IsClean : App → CacheState → ℕ → Type 0
IsClean a c k = (e : Stamp) × (stamp_of c k ≡ Some e) × IsCurrent a c k e.checked

-- a cell leans on another that has a value by itself
abbrev pub Leans : App → ℕ → ℕ → Type 0
Leans a k d = (i : CellInfo) × (slice_get a.cells k ≡ Some i) × LeansOn a.names i d
    × (is_alone a.cells d ≡ true)

-- it is kept, and has had its value since this number
abbrev pub IsSettled : CacheState → ℕ → ℕ → Type 0
IsSettled c d n = (f : Stamp) × (stamp_of c d ≡ Some f) × (f.moved ≤ n)

-- UNMOVED: no source that a formula names changed after this number, and no cell on which it leans
-- got another value
pub record IsUnmoved (a : App) (c : CacheState) (i : CellInfo) (n : ℕ) : Type 0 where
  pub sources : (s : Source) → is_cell s ≡ false → IsAmong s i.reads → version_of c s ≤ n
  pub cells : (d : ℕ) → LeansOn a.names i d → is_alone a.cells d ≡ true → IsSettled c d n

-- a formula names none of these sources
abbrev pub NamesNone : List Source → CellInfo → Type 0
NamesNone xs i = (s : Source) → IsAmong s xs → IsAmong s i.reads → ⊥

-- ---- the invariant

-- so many numbers are left
abbrev pub HasNumbersLeft : ℕ → Type 0
HasNumbersLeft n = n + 2001 < 2 ^ 64

-- no number is above the last one
pub record AreLow (c : CacheState) : Type 0 where
  pub versions : (p : ℕ) → slice_index c.versions p ≤ c.last
  pub checked : (k : ℕ) (e : Stamp) → stamp_of c k ≡ Some e → e.checked ≤ c.last
  pub moved : (k : ℕ) (e : Stamp) → stamp_of c k ≡ Some e → e.moved ≤ c.last

-- IN ORDER, whatever the session and the tables are: there is a place for each cell and each
-- source; a value fits its cell; a formula that has no value by itself isn't kept, and is blank;
-- and what a clean cell leans on is clean, and didn't move since it was checked.
pub record IsInOrder (a : App) (c : CacheState) : Type 0 where
  pub few : length a.cells ≤ 2000
  pub stamps : length c.stamps ≡ length a.cells
  pub values : length c.values.cells ≡ length a.cells
  pub places : (s : Source) → IsSourceOf a.names s → source_index s < length c.versions
  pub fits : CellsFit a (cached_value c)
  pub bare : (k : ℕ) → is_alone a.cells k ≡ false → cached_value c k ≡ blank
  pub alone : (k : ℕ) (e : Stamp) → stamp_of c k ≡ Some e → is_alone a.cells k ≡ true
  pub leans : (k d : ℕ) (e : Stamp) → stamp_of c k ≡ Some e → IsCurrent a c k e.checked
      → Leans a k d → IsClean a c d × IsSettled c d e.checked
  pub low : AreLow c

-- RIGHT over a present: it is in order, and the value of each kept cell is that of its formula over
-- what is kept, where nothing moved since it was checked. Left out are the cells that name sources
-- of which a change is still to be told.
pub record IsRight (p : Present) (pending : List Source) (c : CacheState) : Type 0 where
  pub order : IsInOrder p.app c
  pub valid : (k : ℕ) (e : Stamp) (i : CellInfo) → stamp_of c k ≡ Some e
      → slice_get p.app.cells k ≡ Some i → NamesNone pending i → IsUnmoved p.app c i e.checked
      → IsCellValue p (cached_value c) i (cached_value c k)

-- A CLEAN CELL HAS ITS FRESH VALUE, and so has each that it needs, where what is kept is right
abbrev pub CleanIsFresh : Type 0
CleanIsFresh = (p : Present) (c : CacheState) (k : ℕ) → IsRight p [] c → IsClean p.app c k
    → IsFreshAt p (cached_value c) k
