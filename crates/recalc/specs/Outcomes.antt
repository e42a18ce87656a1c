-- What calls on a cache leave of it.
use Rattle.std.specs.Prelude.{◌≡◌, ◌+◌, ◌<◌, ◌≤◌, ◌^◌, ℕ, List, [], length, Option, None}
use Rattle.std.specs.Prelude.{slice_index}
use Rattle.fx_types.specs.Values.{blank}
use Rattle.fx_core.specs.declared.sources.Source.{Source}
use Rattle.recalc.specs.Asking.{IsHeardOf, ToldRows}
use Rattle.recalc.specs.app_cells.declared.app.App.{App}
use Rattle.recalc.specs.app_semantics.Present.{present}
use Rattle.row_keeper.specs.Tables.{Tables}
use Rattle.session_state.specs.Sessions.{SessionState}
use Rattle.recalc.specs.Kept.{HasNumbersLeft, IsInOrder, IsRight, CacheState, no_cache_room}
use Rattle.recalc.specs.Kept.{stamp_of, cached_value}

-- right over all that is heard of the rows of tables
abbrev pub IsRightOver : App → SessionState → Option Tables → ℕ → CacheState → Type 0
IsRightOver a s told m c = (tables : ToldRows) → IsHeardOf told tables
    → IsRight (present a s tables m) [] c

-- nothing is kept, and no number is given
pub record IsEmpty (c : CacheState) : Type 0 where
  pub emptied : c.emptied ≡ 0
  pub last : c.last ≡ 0
  pub versions : (p : ℕ) → slice_index c.versions p ≡ 0
  pub stamps : (k : ℕ) → stamp_of c k ≡ None

-- nothing is kept any more
pub record IsForgotten (old new : CacheState) : Type 0 where
  pub emptied : new.emptied ≡ old.emptied
  pub last : new.last ≡ old.last
  pub versions : new.versions ≡ old.versions
  pub stamps : (k : ℕ) → stamp_of new k ≡ None
  pub values : new.values ≡ old.values
  pub cells : length new.stamps ≡ length old.stamps

-- THE ROOM WAS USED UP: in it nothing is kept yet of so many cells, on the same day, and numbers go
-- on from the last one
pub record IsRestarted (count : ℕ) (old new : CacheState) : Type 0 where
  pub emptied : new.emptied ≡ old.emptied
  pub last : new.last ≡ old.last
  pub day : new.values.day ≡ old.values.day
  pub versions : (p : ℕ) → slice_index new.versions p ≡ 0
  pub stamps : (k : ℕ) → stamp_of new k ≡ None
  pub values : (k : ℕ) → cached_value new k ≡ blank
  pub places : length new.versions ≡ old.room.versions
  pub cells : length new.stamps ≡ count
  pub valued : length new.values.cells ≡ count

-- what was kept came out, without the day and with no room
abbrev pub let_out : CacheState → CacheState
let_out c = record c {
  values = record { cells = c.values.cells; day = blank };
  room = no_cache_room;
}

-- it is counted once more, up to the count's end
pub record IsOneMore (old new : ℕ) : Type 0 where
  pub more : old + 1 < 2 ^ 64 → new ≡ old + 1
  pub never_less : old ≤ new

-- nothing is kept any more, and all numbers are given anew, which is counted
pub record IsEmptied (old new : CacheState) : Type 0 where
  pub emptied : IsOneMore old.emptied new.emptied
  pub last : new.last ≡ 0
  pub versions : (p : ℕ) → slice_index new.versions p ≡ 0
  pub stamps : (k : ℕ) → stamp_of new k ≡ None
  pub values : new.values ≡ old.values
  pub places : length new.versions ≡ length old.versions
  pub cells : length new.stamps ≡ length old.stamps

-- all is as before, or few numbers were left and nothing is kept any more
pub record HasNumbers (a : App) (old new : CacheState) : Type 0 where
  pub room : HasNumbersLeft new.last
  pub same : HasNumbersLeft old.last → new ≡ old
  pub counted : (HasNumbersLeft old.last → ⊥) → IsOneMore old.emptied new.emptied
  pub order : IsInOrder a old → IsInOrder a new
  pub right : (s : SessionState) (tables : ToldRows) (m : ℕ) (pending : List Source)
      → IsRight (present a s tables m) pending old → IsRight (present a s tables m) pending new
  pub places : length new.versions ≡ length old.versions
  pub values : new.values ≡ old.values
  pub day : new.values.day ≡ old.values.day
