-- What is kept as an app is edited.
use Rattle.std.specs.Prelude.{◌≡◌, ◌↔◌, ◌⊎◌, ◌<◌, ℕ, zero, suc, List, [], length, true, Option}
use Rattle.std.specs.Prelude.{Some, None, IsSome, slice_get, slice_set, bytes_eq}
use Rattle.std.specs.List.{position, slice_index_or}
use Rattle.fx_types.specs.TypeView.{shape}
use Rattle.fx_types.specs.Values.{Data, blank}
use Rattle.fx_core.specs.Reads.{IsAmong}
use Rattle.fx_core.specs.Term.{Term, Terms, Top, act, cons, nil, of, read}
use Rattle.fx_core.specs.declared.sources.Source.{Source}
use Rattle.fx_core.specs.declared.sources.Source.TheVariants as source
use Rattle.recalc.specs.Asking.{ToldRows}
use Rattle.recalc.specs.app_cells.Leaning.{cell_behind}
use Rattle.recalc.specs.app_cells.declared.app.App.{App}
use Rattle.recalc.specs.app_cells.declared.app.CellInfo.{CellInfo}
use Rattle.recalc.specs.app_semantics.Fresh.{reads_table}
use Rattle.recalc.specs.app_semantics.Holding.{HoldsFitting}
use Rattle.recalc.specs.app_semantics.Needed.{Needs, is_alone, stands_alone}
use Rattle.recalc.specs.app_semantics.Present.{present}
use Rattle.session_state.specs.Carrying.{AreAlike, carried, collection_was, variable_was, was_at}
use Rattle.session_state.specs.Sessions.{SessionState}
use Rattle.recalc.specs.Kept.{IsClean, IsInOrder, IsRight, CacheState, Leans, stamp_of}
use Rattle.recalc.specs.Kept.{cached_value}
use Rattle.recalc.specs.declared.stamps.Stamp.{Stamp}

-- an app that was edited: it has the tables, the screens and the controls that it had, and its
-- limit
pub record IsEditOf (old new : App) : Type 0 where
  pub alike : AreAlike old.names new.names
  pub schema : new.names.schema ≡ old.names.schema
  pub limit : new.limit ≡ old.limit

-- ---- cells and sources by their names

-- where the cell of an address stands
abbrev pub place_of_cell : App → CellInfo → Option ℕ
place_of_cell a y = position (λ (x : CellInfo). bytes_eq x.cell.name y.cell.name) a.cells

-- where a cell of the edited app was: the one of its address, if that has the same type
abbrev pub cell_was : App → App → ℕ → Option ℕ
cell_was old new k = was_at (λ (c : CellInfo). c.ty) (place_of_cell old) (place_of_cell new)
    old.cells new.cells k

-- where each cell of the edited app was
abbrev pub AreOldPlaces : App → App → List (Option ℕ) → Type 0
AreOldPlaces old new places = (k : ℕ) → slice_index_or places k None ≡ cell_was old new k

-- a cell of the edited app was this one, and has a value by itself where that one has
abbrev pub IsOldOne : App → App → ℕ → ℕ → Type 0
IsOldOne old new k j = (cell_was old new k ≡ Some j) × (is_alone new.cells k ≡ is_alone old.cells j)

-- two cells are one, or both are none
abbrev pub IsOldBehind : App → App → Option ℕ → Option ℕ → Type 0
IsOldBehind old new (Some k) (Some j) = IsOldOne old new k j
IsOldBehind old new None None = Unit {0}
IsOldBehind old new k j = ⊥

-- A source of the edited app was this one before, and has the value that it had, where cells have.
-- An input or a chosen item is the old one where what gives it its default, or its items, is.
abbrev pub IsOldSource : App → App → Source → Source → Type 0
IsOldSource old new (source.Cell k) (source.Cell j) = IsOldOne old new k j
IsOldSource old new (source.Global k) (source.Global j)
    = variable_was old.names new.names k ≡ Some j
IsOldSource old new (source.Context k) (source.Context j)
    = variable_was old.names new.names k ≡ Some j
IsOldSource old new (source.Gathered k) (source.Gathered j)
    = collection_was old.names new.names k ≡ Some j
IsOldSource old new (source.Input k) (source.Input j)
    = (k ≡ j) × IsOldBehind old new (cell_behind new.names (source.Input k))
    (cell_behind old.names (source.Input j))
IsOldSource old new (source.Chosen k) (source.Chosen j)
    = (k ≡ j) × IsOldBehind old new (cell_behind new.names (source.Chosen k))
    (cell_behind old.names (source.Chosen j))
IsOldSource old new (source.Table k) (source.Table j) = k ≡ j
IsOldSource old new source.Today source.Today = Unit {0}
IsOldSource old new s r = ⊥

-- ---- trees

-- what stands at a node is what stood there, a source by its name; no node acts
abbrev pub IsOldTop : (Source → Source → Type 0) → Top → Top → Type 0
IsOldTop was (read s) h = (r : Source) × was s r × (h ≡ read r)
IsOldTop was (act d) h = ⊥
IsOldTop was g h = g ≡ h

abbrev mutual
  -- a tree is the old one, the sources by their names
  pub IsOldTree : (Source → Source → Type 0) → Term → Term → Type 0
  IsOldTree was (of g ts) (of h us) = IsOldTop was g h × AreOldTrees was ts us

  pub AreOldTrees : (Source → Source → Type 0) → Terms → Terms → Type 0
  AreOldTrees was nil nil = Unit {0}
  AreOldTrees was (cons t ts) (cons u us) = IsOldTree was t u × AreOldTrees was ts us
  AreOldTrees was ts us = ⊥

-- what stands at the top of a tree
abbrev pub top_of : Term → Top
top_of (of h ts) = h

-- the trees under it
abbrev pub subtrees : Term → Terms
subtrees (of h ts) = ts

-- the one at a place
abbrev pub subtree_at : Terms → ℕ → Option Term
subtree_at nil k = None
subtree_at (cons t ts) zero = Some t
subtree_at (cons t ts) (suc k) = subtree_at ts k

-- none stands after a place
abbrev pub IsPast : ℕ → Terms → Type 0
IsPast n ts = (k : ℕ) → n < k → subtree_at ts k ≡ None

-- one part is the old one, or neither is there
abbrev pub IsOldPart : (Source → Source → Type 0) → Option Term → Option Term → Type 0
IsOldPart was (Some t) (Some u) = IsOldTree was t u
IsOldPart was None None = Unit {0}
IsOldPart was t u = ⊥

-- ---- cells that an edit leaves

-- a formula was left: both have a value by themselves, read what was read, and have one tree
pub record IsLeft (old new : App) (before after : CellInfo) : Type 0 where
  pub alone : stands_alone before ≡ true
  pub still : stands_alone after ≡ true
  pub told : reads_table after.reads ≡ reads_table before.reads
  pub reads : (x : Source) → IsAmong x after.reads
      → (r : Source) × IsAmong r before.reads × IsOldSource old new x r
  pub tree : IsOldTree (IsOldSource old new) after.taken before.taken

-- A cell of the edited app is this one of before: both have one address and one type, and the
-- formula was left.
pub record IsOldCell (old new : App) (j k : ℕ) : Type 0 where
  pub was : cell_was old new k ≡ Some j
  pub before : CellInfo
  pub after : CellInfo
  pub there : slice_get old.cells j ≡ Some before
  pub here : slice_get new.cells k ≡ Some after
  pub ty : shape after.ty ≡ shape before.ty
  pub left : IsLeft old new before after

-- UNTOUCHED BY AN EDIT: a cell is the old one, and so is each that it needs and that has a value by
-- itself. Then it reaches no formula that differs or that is new, and no variable or collection
-- that loses its value.
abbrev pub IsUntouched : App → App → ℕ → Type 0
IsUntouched old new k = (d : ℕ) → Needs new k d → is_alone new.cells d ≡ true
    → (c : ℕ) × IsOldCell old new c d

-- for each cell of the edited app the old one, where that is the same
pub record AreOldCells (old new : App) (cells : List (Option ℕ)) : Type 0 where
  pub same : (k j : ℕ) → slice_get cells k ≡ Some (Some j) → IsOldCell old new j k
  pub other : (k j : ℕ) → slice_get cells k ≡ Some None → IsOldCell old new j k → ⊥
  pub long : length cells ≡ length new.cells

-- the value of a cell was taken out
abbrev pub taken_from : CacheState → ℕ → CacheState
taken_from c k = record c { values = record c.values { cells = slice_set c.values.cells k blank } }

-- a cell is kept with this value, which it has since this number, and was checked now
abbrev pub received : CacheState → ℕ → Data → ℕ → CacheState
received c k v moved = record c {
  stamps = slice_set c.stamps k (Some (record { checked = c.last; moved = moved }));
  values = record c.values { cells = slice_set c.values.cells k v };
}

-- all cells with a value by themselves on which one leans are kept
abbrev pub AreHad : App → CacheState → ℕ → Type 0
AreHad a c k = (d : ℕ) → Leans a k d → IsSome (stamp_of c d)

-- ONE CELL went over: it was clean and all is kept there on which it leans, and the value went from
-- the one cache to the other; or it was not so, and both are as they were
abbrev pub IsCarriedAt : App → App → ℕ → ℕ → CacheState → CacheState → CacheState → CacheState
    → Type 0
IsCarriedAt old new j k from left before after =
    ((e : Stamp) × (stamp_of from j ≡ Some e) × IsClean old from j × AreHad new before k
    × (left ≡ taken_from from j) × (after ≡ received before k (cached_value from j) e.moved))
    ⊎ ((IsClean old from j → AreHad new before k → ⊥) × (left ≡ from) × (after ≡ before))

-- CARRIED to an edited app: kept are the cells that were clean and that the edit left, with their
-- values and since when they have them, and they are clean. No other cell is. Over the sessions
-- that are carried what was right is right.
pub record IsCarried (old new : App) (before after : CacheState) : Type 0 where
  pub emptied : after.emptied ≡ before.emptied
  pub last : after.last ≡ before.last
  pub day : after.values.day ≡ before.values.day
  pub order : IsInOrder new after
  pub clean : (k : ℕ) → IsClean new after k ↔ ((j : ℕ) × IsOldCell old new j k
      × IsUntouched old new k × IsClean old before j)
  pub moved : (k j : ℕ) (e f : Stamp) → cell_was old new k ≡ Some j → stamp_of after k ≡ Some e
      → stamp_of before j ≡ Some f → e.moved ≡ f.moved
  pub right : (s : SessionState) (tables : ToldRows) (m : ℕ) → HoldsFitting old.names s
      → IsRight (present old s tables m) [] before
      → IsRight (present new (carried old.names new.names s) tables m) [] after

-- BEGUN ANEW for an app that replaces the old one: nothing is kept, and the day stays
pub record IsBegunAnew (a : App) (before after : CacheState) : Type 0 where
  pub order : IsInOrder a after
  pub empty : (k : ℕ) → stamp_of after k ≡ None
  pub emptied : after.emptied ≡ before.emptied
  pub day : after.values.day ≡ before.values.day
