-- What changes make of a session, which are refused, and what fits an app's names.
use Rattle.std.specs.Prelude.{◌≡◌, ℕ, ◌<◌, ◌++◌, ◌∷◌, [], nat_le, not, ◌||◌, length, slice_set}
use Rattle.std.specs.Prelude.{Bool, true, false, Some, None, option_map}
use Rattle.fx_types.specs.Values.{Data, blank, tab, no_rows}
use Rattle.fx_types.specs.ValueView.{view}
use Rattle.fx_types.specs.Types.{Shape}
use Rattle.fx_value.specs.Fits.{fits_in}
use Rattle.fx_core.specs.declared.sources.Source.{Source}
use Rattle.fx_core.specs.declared.sources.Source.TheVariants as source
use Rattle.fx_core.specs.declared.names.Names.{Names}
use Rattle.fx_core.specs.SourceTypes.{sources}
use Rattle.session_state.specs.declared.change.Change.{Change}
use Rattle.session_state.specs.declared.change.Change.TheVariants.{Global, Context, Gather, Empty}
use Rattle.session_state.specs.declared.change.Change.TheVariants.{Input, Choose, Screen, Notice}
use Rattle.session_state.specs.Sessions.{SessionState, no_session_room, weight, may_weigh}
use Rattle.session_state.specs.Sessions.{stored_value, Holds}

-- the session that a change makes
abbrev pub made : Change → SessionState → SessionState
made (Global k v) s = record s { variables = slice_set s.variables k (view v) }
made (Context k v) s = record s { variables = slice_set s.variables k (view v) }
made (Gather k v) s = record s { collections = slice_set s.collections k (view v) }
made (Empty k) s = record s { collections = slice_set s.collections k (tab no_rows) }
made (Input k v) s = record s { inputs = slice_set s.inputs k (option_map view v) }
made (Choose k position id) s = record s { chosen = slice_set s.chosen k (Some (position, id)) }
made (Screen k) s = record s { screen = k; navigated = true }
made (Notice w) s = record s { notices = s.notices ++ w ∷ [] }

-- the one kind of change that takes memory
abbrev pub IsNotice : Change → Type 0
IsNotice (Notice w) = Unit {0}
IsNotice c = ⊥

-- the eleventh notice of a request
abbrev pub is_eleventh : Change → SessionState → Bool
is_eleventh (Notice w) s = nat_le 10 (length s.notices)
is_eleventh c s = false

-- a change is refused where the session would weigh too much, and at the eleventh notice
abbrev pub is_change_refused : Change → SessionState → Bool
is_change_refused c s = not (may_weigh (weight s) (weight (made c s))) || is_eleventh c s

-- what a change names is there
abbrev pub IsThere : Change → SessionState → Type 0
IsThere (Global k v) s = k < length s.variables
IsThere (Context k v) s = k < length s.variables
IsThere (Gather k v) s = k < length s.collections
IsThere (Empty k) s = k < length s.collections
IsThere (Input k v) s = k < length s.inputs
IsThere (Choose k position id) s = k < length s.chosen
IsThere (Screen k) s = Unit {0}
IsThere (Notice w) s = Unit {0}

-- what a session holds itself: variables, collections and what users gave
abbrev pub IsOwn : Source → Type 0
IsOwn (source.Global k) = Unit {0}
IsOwn (source.Context k) = Unit {0}
IsOwn (source.Gathered k) = Unit {0}
IsOwn (source.Input k) = Unit {0}
IsOwn x = ⊥

-- a session fits an app's names where its screen is one, each control has a place, each of its
-- sources that has a type is held, with a value that fits it, and there is no room beside it
pub record FitsNames (n : Names) (s : SessionState) : Type 0 where
  pub screen : s.screen < length n.screens
  pub controls : length s.chosen ≡ length n.controls
  pub sources_held : (x : Source) (t : Shape) → IsOwn x → sources n x ≡ Some t → Holds s x
  pub values_fit : (x : Source) (t : Shape) → IsOwn x → sources n x ≡ Some t
      → fits_in (stored_value s x) t ≡ true
  pub spare : s.room ≡ no_session_room

-- an empty table fits the type of each collection
abbrev pub HoldsTables : Names → Type 0
HoldsTables n = (k : ℕ) (t : Shape) → sources n (source.Gathered k) ≡ Some t
    → fits_in (tab no_rows) t ≡ true

-- a value fits where a source of the names has a type that it fits
abbrev pub FitsSource : Names → Source → Data → Type 0
FitsSource n x d = (t : Shape) × (sources n x ≡ Some t) × (fits_in d t ≡ true)

-- a change fits an app's names where the numbers that it names are theirs and its value fits
abbrev pub FitsChange : Names → Change → Type 0
FitsChange n (Global k v) = FitsSource n (source.Global k) (view v)
FitsChange n (Context k v) = FitsSource n (source.Context k) (view v)
FitsChange n (Gather k v) = FitsSource n (source.Gathered k) (view v)
FitsChange n (Empty k) = FitsSource n (source.Gathered k) (tab no_rows)
FitsChange n (Input k None) = FitsSource n (source.Input k) blank
FitsChange n (Input k (Some v)) = FitsSource n (source.Input k) (view v)
FitsChange n (Choose k position id) = k < length n.controls
FitsChange n (Screen k) = k < length n.screens
FitsChange n (Notice w) = Unit {0}
