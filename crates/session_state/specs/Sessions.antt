-- What is kept of a session.
use Rattle.std.specs.Prelude.{ℕ, ◌+◌, ◌-◌, ◌^◌, ◌<◌, ◌≤◌, min, max, nat_le, ◌||◌, List, [], length}
use Rattle.std.specs.Prelude.{Bool, false, Option, None, unwrap_or, replicate}
use Rattle.std.specs.List.{slice_index_or, sum_by}
use Rattle.fx_types.specs.Values.{Data, blank, tab, no_rows}
use Rattle.fx_value.specs.Weight.{weight_of}
use Rattle.fx_core.specs.declared.sources.Source.{Source}
use Rattle.fx_core.specs.declared.sources.Source.TheVariants as source
use Rattle.fx_core.specs.declared.names.Names.{Names}
use Rattle.session_state.specs.Once.{LastRequest, nobody}

-- for how many variables, collections and controls there is room beside a session, for an app that
-- is edited or replaced
pub record SessionRoom : Type 0 where
  pub variables : ℕ
  pub collections : ℕ
  pub controls : ℕ

abbrev pub no_session_room : SessionRoom
no_session_room = record { variables = 0; collections = 0; controls = 0 }

-- as much as the names want, and no less than there is
abbrev pub room_with : Names → SessionRoom → SessionRoom
room_with n r = record {
  variables = max (length n.variables) r.variables;
  collections = max (length n.collections) r.collections;
  controls = max (length n.controls) r.controls;
}

-- there is as much as the names want
pub record HasSessionRoom (n : Names) (r : SessionRoom) : Type 0 where
  pub variables : length n.variables ≤ r.variables
  pub collections : length n.collections ≤ r.collections
  pub controls : length n.controls ≤ r.controls

-- The current screen, and whether one was made current in this request; variables and collections,
-- by their numbers; by the numbers of controls what users gave, and the position and the id of what
-- is chosen; the last accepted request; the notices of this request; and the spare room, which
-- there is while an app is edited or replaced.
pub record SessionState : Type 0 where
  pub screen : ℕ
  pub navigated : Bool
  pub variables : List Data
  pub collections : List Data
  pub inputs : List (Option Data)
  pub chosen : List (Option (ℕ × Option ℕ))
  pub kept : LastRequest
  pub notices : List (List ℕ)
  pub room : SessionRoom

-- a session at first: the first screen, blank variables, empty collections, and nothing else
abbrev pub opened : Names → SessionState
opened n = record {
  screen = 0;
  navigated = false;
  variables = replicate (length n.variables) blank;
  collections = replicate (length n.collections) (tab no_rows);
  inputs = replicate (length n.controls) None;
  chosen = replicate (length n.controls) None;
  kept = nobody;
  notices = [];
  room = no_session_room;
}

-- what a value weighs, as far as 64 bits can tell
abbrev pub weighed : Data → ℕ
weighed d = min (weight_of d) (2 ^ 64 - 1)

abbrev pub weight_of_values : List Data → List Data → ℕ
weight_of_values variables collections = sum_by weighed variables + sum_by weighed collections

-- the weight of a session: that of its variables and collections
abbrev pub weight : SessionState → ℕ
weight s = weight_of_values s.variables s.collections

-- a weight may become another unless that is both greater and over 4,194,304 bytes
abbrev pub may_weigh : ℕ → ℕ → Bool
may_weigh before after = nat_le after before || nat_le after 4194304

-- a session holds this: a variable, a collection or what a user may give
abbrev pub Holds : SessionState → Source → Type 0
Holds s (source.Global k) = k < length s.variables
Holds s (source.Context k) = k < length s.variables
Holds s (source.Gathered k) = k < length s.collections
Holds s (source.Input k) = k < length s.inputs
Holds s x = ⊥

-- its value, which is blank where a user gave nothing
abbrev pub stored_value : SessionState → Source → Data
stored_value s (source.Global k) = slice_index_or s.variables k blank
stored_value s (source.Context k) = slice_index_or s.variables k blank
stored_value s (source.Gathered k) = slice_index_or s.collections k blank
stored_value s (source.Input k) = unwrap_or (slice_index_or s.inputs k None) blank
stored_value s x = blank
