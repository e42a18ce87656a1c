-- What is kept of the formulas of a session, and what is changed under it.
use Rattle.std.specs.Prelude.{◌≡◌, ℕ, List, [], false, Option, Some, None, slice_get}
use Rattle.std.specs.List.{slice_index_or}
use Rattle.fx_types.specs.Types.{Shape}
use Rattle.fx_types.specs.Values.{Data, blank}
use Rattle.fx_scalar.specs.ScalarFunctions.{IsToday}
use Rattle.fx_core.specs.Reads.{IsAmong}
use Rattle.fx_core.specs.SourceTypes.{sources}
use Rattle.fx_core.specs.declared.names.Names.{Names}
use Rattle.fx_core.specs.declared.sources.Source.{Source}
use Rattle.fx_core.specs.declared.sources.Source.TheVariants as source
use Rattle.recalc.specs.Asking.{IsHeardOf, ToldRows}
use Rattle.recalc.specs.Values.{CellsFit}
use Rattle.recalc.specs.app_cells.Reach.{is_cell}
use Rattle.recalc.specs.app_cells.declared.app.App.{App}
use Rattle.recalc.specs.app_semantics.Needed.{IsFreshAt}
use Rattle.recalc.specs.app_semantics.Present.{Present, present}
use Rattle.recalc.specs.Changes.{StaysCleanExcept, IsTouched}
use Rattle.recalc.specs.Kept.{IsInOrder, IsRight, IsSourceOf, CacheState}
use Rattle.recalc.specs.Outcomes.{IsRightOver}
use Rattle.row_keeper.specs.Tables.{Tables}
use Rattle.row_requests.specs.Written.{SameTablesExcept}
use Rattle.session_state.specs.Sessions.{SessionState, stored_value}

-- A SESSION'S CACHE stands: it is in order, right over the session and over all that is heard of
-- the rows of tables, and of the moment's day
pub record IsCached (a : App) (s : SessionState) (told : Option Tables) (m : ℕ) (c : CacheState) :
    Type 0 where
  pub order : IsInOrder a c
  pub right : ∥ IsRightOver a s told m c ∥₁
  pub day : IsToday m c.values.day

-- the same where it is still to be told that these sources have changed
pub record IsPending (a : App) (s : SessionState) (told : Option Tables) (m : ℕ) (ws : List Source)
    (c : CacheState) : Type 0 where
  pub order : IsInOrder a c
  pub right : ∥ ((tables : ToldRows) → IsHeardOf told tables → IsRight (present a s tables m) ws c)
      ∥₁
  pub day : IsToday m c.values.day

-- two sessions hold the same, and the same is chosen, but in these sources
pub record SameSessionExcept (n : Names) (ws : List Source) (s r : SessionState) : Type 0 where
  pub held : (x : Source) (t : Shape) → sources n x ≡ Some t → (IsAmong x ws → ⊥)
      → stored_value r x ≡ stored_value s x
  pub chosen : (k : ℕ) → (IsAmong (source.Chosen k) ws → ⊥)
      → slice_index_or r.chosen k None ≡ slice_index_or s.chosen k None

-- the tables are those with which the transaction began, but these
abbrev pub AreLater : List Source → Option Tables → Option Tables → Type 0
AreLater ws began told = (t u : Tables) → began ≡ Some t → told ≡ Some u → SameTablesExcept ws t u

-- each is a source of the app, and no cell
abbrev pub AreSources : Names → List Source → Type 0
AreSources n ws = (x : Source) → IsAmong x ws → IsSourceOf n x

-- FRESH WHERE IT IS LOOKED AT: these cells have fresh values, and all others some that fit
pub record AreFreshAt (p : Present) (looked : ℕ → Type 0) (values : ℕ → Data) : Type 0 where
  pub fresh : (k : ℕ) → looked k → IsFreshAt p values k
  pub fits : CellsFit p.app values
  pub beyond : (k : ℕ) → slice_get p.app.cells k ≡ None → values k ≡ blank

-- a source was touched, if there is one
abbrev pub IsTouchedIf : App → Option Source → CacheState → CacheState → Type 0
IsTouchedIf a None old new = new ≡ old
IsTouchedIf a (Some s) old new = is_cell s ≡ false → IsTouched a s old new

-- THESE SOURCES WERE TOUCHED: what is kept is right where it was still to be told that they have
-- changed
pub record AreTouched (a : App) (ws : List Source) (old new : CacheState) : Type 0 where
  pub order : IsInOrder a old → IsInOrder a new
  pub right : (s : SessionState) (tables : ToldRows) (m : ℕ) → IsRight (present a s tables m) ws old
      → IsRight (present a s tables m) [] new
  pub but : StaysCleanExcept a ws old new
  pub day : new.values.day ≡ old.values.day

-- CLEAN CELLS ARE LEFT SO from any start on, but those that reach what was written until now, where
-- the same was so of what was written before
abbrev pub GoesOnClean : App → List Source → CacheState → List Source → CacheState → Type 0
GoesOnClean a before old after new = (start : CacheState) → StaysCleanExcept a before start old
    → StaysCleanExcept a after start new
