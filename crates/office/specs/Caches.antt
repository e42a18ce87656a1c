-- The caches of sessions.
use Rattle.std.specs.Prelude.{◌≡◌, ◌⊎◌, ◌+◌, ℕ, Bool, true, false, List, [], ◌∷◌, length, Option}
use Rattle.std.specs.Prelude.{Some, None, nat_eq, not, slice_get}
use Rattle.std.specs.List.{filter}
use Rattle.app_cells.specs.declared.app.App.{App}
use Rattle.fx_types.specs.Values.{Data}
use Rattle.fx_scalar.specs.ScalarFunctions.{IsToday}
use Rattle.fx_core.specs.Reads.{IsAmong}
use Rattle.fx_core.specs.declared.sources.Source.{Source}
use Rattle.fx_core.specs.declared.sources.Source.TheVariants as source
use Rattle.recalc.specs.Carrying.{IsCarried}
use Rattle.recalc.specs.Changes.{StaysCleanExcept, IsTouched, on_day}
use Rattle.recalc.specs.Kept.{HasNumbersLeft, IsClean, IsInOrder, IsRight, IsRoomFor, CacheState}
use Rattle.recalc.specs.Outcomes.{IsEmpty}
use Rattle.recalc.specs.Asking.{ToldRows}
use Rattle.recalc.specs.app_cells.Reach.{Reaches}
use Rattle.recalc.specs.app_semantics.Present.{present}
use Rattle.numbered_requests.specs.declared.directory.Named.{Named}
use Rattle.row_keeper.specs.Tables.{Tables}
use Rattle.session_requests.specs.Caching.{IsCached}
use Rattle.session_state.specs.Sessions.{SessionState}

-- the cache of a session: it has its name, and what is kept in it is right
pub record IsCacheOf (a : App) (told : Option Tables) (m : ℕ) (s : Named SessionState)
    (c : Named CacheState) : Type 0 where
  pub name : c.name ≡ s.name
  pub cached : IsCached a s.it told m c.it

-- EACH SESSION HAS ITS CACHE, in the order of sessions: what is kept is right over the app, over
-- what the session holds, over the rows of tables, where they are told, and on the day of this
-- moment.
abbrev pub AreKept : App → Option Tables → ℕ → List (Named SessionState) → List (Named CacheState)
    → Type 0
AreKept a told m [] [] = Unit {0}
AreKept a told m [] (c ∷ cs) = ⊥
AreKept a told m (s ∷ ss) [] = ⊥
AreKept a told m (s ∷ ss) (c ∷ cs) = IsCacheOf a told m s c × AreKept a told m ss cs

-- a cache for a session of an app, in which nothing is kept, on the day of this moment
pub record IsNew (a : App) (m : ℕ) (c : CacheState) : Type 0 where
  pub order : IsInOrder a c
  pub empty : IsEmpty c
  pub day : IsToday m c.values.day

-- what is kept stays, beside which there may be other room
abbrev pub IsButRoom : CacheState → CacheState → Type 0
IsButRoom c d = d ≡ record c { room = d.room }

-- in each cache there is room for an app
abbrev pub HaveRoomFor : App → List (Named CacheState) → Type 0
HaveRoomFor a cs = (k : ℕ) (c : Named CacheState) → slice_get cs k ≡ Some c → IsRoomFor a c.it.room

-- each is in order
abbrev pub AreInOrder : App → List (Named CacheState) → Type 0
AreInOrder a cs = (k : ℕ) (c : Named CacheState) → slice_get cs k ≡ Some c → IsInOrder a c.it

-- BESIDE AN EDIT: the app stays, and so does what is kept; or the cache went over to the edited
-- app, in which what the edit left stays clean
abbrev pub WentOver : App → App → CacheState → CacheState → Type 0
WentOver old new c d = ((new ≡ old) × IsButRoom c d) ⊎ IsCarried old new c d

-- ---- what caches are told

-- each cache became another one, of its name, so
pub record EachCacheBecame (R : ℕ → CacheState → CacheState → Type 0)
    (old new : List (Named CacheState)) : Type 0 where
  pub long : length new ≡ length old
  pub each : (k : ℕ) (c : Named CacheState) → slice_get old k ≡ Some c
      → (d : Named CacheState) × (slice_get new k ≡ Some d) × (d.name ≡ c.name) × R k c.it d.it

-- another day begins, which is that of this moment
pub record IsTurned (m : ℕ) (old new : CacheState) : Type 0 where
  pub told : CacheState
  pub day : Data
  pub touched : (a : App) → IsTouched a source.Today old told
  pub today : IsToday m day
  pub is : new ≡ on_day told day

-- the tables among sources
abbrev pub is_table : Source → Bool
is_table (source.Table k) = true
is_table x = false

abbrev pub tables_in : List Source → List Source
tables_in xs = filter is_table xs

-- SOURCES, WHICH ARE NO CELLS, WERE TOUCHED: what is kept is right where their changes were still
-- to be told; and the cells that reach none of them stay clean, unless numbers run out.
pub record CacheTouched (a : App) (xs : List Source) (old new : CacheState) : Type 0 where
  pub order : IsInOrder a old → IsInOrder a new
  pub right : (s : SessionState) (tables : ToldRows) (m : ℕ) → IsRight (present a s tables m) xs old
      → IsRight (present a s tables m) [] new
  pub left : HasNumbersLeft (old.last + length xs) → (k : ℕ)
      → ((x : Source) → IsAmong x xs → Reaches a k x → ⊥) → IsClean a old k → IsClean a new k
  pub but : StaysCleanExcept a xs old new
  pub day : new.values.day ≡ old.values.day

-- a place isn't this one
abbrev pub is_other_place : Option ℕ → ℕ → Bool
is_other_place None at = true
is_other_place (Some place) at = not (nat_eq place at)

-- all caches are told of sources but the one at a place, which stays as it is
pub record IsToldAside (a : App) (place : Option ℕ) (xs : List Source) (k : ℕ)
    (old new : CacheState) : Type 0 where
  pub same : is_other_place place k ≡ false → new ≡ old
  pub told : is_other_place place k ≡ true → CacheTouched a xs old new
