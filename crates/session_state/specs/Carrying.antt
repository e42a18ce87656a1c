-- What sessions keep as an app is edited.
use Rattle.std.specs.Prelude.{◌≡◌, ℕ, Bool, true, false, ◌&&◌, List, length, map, Option, Some}
use Rattle.std.specs.Prelude.{None, option_and_then, slice_get, bytes_eq, nat_eq, if◌then◌else◌}
use Rattle.std.specs.List.{position, range_with_len, slice_index_or}
use Rattle.fx_types.specs.TypeView.{shape}
use Rattle.fx_types.specs.Values.{Data, blank, tab, no_rows}
use Rattle.fx_types.specs.declared.types.Ty.{Ty}
use Rattle.fx_core.specs.declared.names.Collection.{Collection}
use Rattle.fx_core.specs.declared.names.ControlName.{ControlName}
use Rattle.fx_core.specs.declared.names.Names.{Names}
use Rattle.fx_core.specs.declared.names.Variable.{Variable}
use Rattle.fx_typing.specs.Ways.{same_shape}
use Rattle.session_state.specs.Changes.{FitsNames, HoldsTables}
use Rattle.session_state.specs.Sessions.{SessionState, no_session_room}

-- both are there, and they are one name
abbrev pub is_same_name : Option (List ℕ) → Option (List ℕ) → Bool
is_same_name (Some a) (Some b) = bytes_eq a b
is_same_name a b = false

-- two screens, by their numbers among these names and those, have one name; or both are none
abbrev pub is_screen_of_same_name : Names → Names → Option ℕ → Option ℕ → Bool
is_screen_of_same_name n m (Some j) (Some k) = is_same_name (slice_get n.screens j)
    (slice_get m.screens k)
is_screen_of_same_name n m None None = true
is_screen_of_same_name n m a b = false

-- a variable of these names and one of those are one: both are global, or of screens of one name
abbrev pub is_same_variable : Names → Names → Variable → Variable → Bool
is_same_variable n m v w = bytes_eq v.name w.name && is_screen_of_same_name n m v.screen w.screen

-- where a variable of those names stands among these
abbrev pub place_of_variable : Names → Names → Variable → Option ℕ
place_of_variable n m w = position (λ v. is_same_variable n m v w) n.variables

-- where a collection stands among these names
abbrev pub place_of_collection : Names → Collection → Option ℕ
place_of_collection n d = position (λ (c : Collection). bytes_eq c.name d.name) n.collections

abbrev pub is_place : ℕ → Option ℕ → Bool
is_place j (Some k) = nat_eq j k
is_place j None = false

-- Where a thing at a place was among old ones: it stands for the old one and the old one for it,
-- and they have one type.
abbrev pub was_at : {A : Type 0} → (A → Ty) → (A → Option ℕ) → (A → Option ℕ) → List A → List A → ℕ
    → Option ℕ
was_at type in_old in_new olds news j =
    option_and_then (λ y. option_and_then (λ i. option_and_then
    (λ x. if is_place j (in_new x) && same_shape (shape (type x)) (shape (type y)) then Some i else
    None)
    (slice_get olds i)) (in_old y)) (slice_get news j)

-- where an edited app's variable was among those of the app before
abbrev pub variable_was : Names → Names → ℕ → Option ℕ
variable_was old new j =
    was_at (λ (v : Variable). v.ty) (place_of_variable old new) (place_of_variable new old)
    old.variables new.variables j

-- where its collection was
abbrev pub collection_was : Names → Names → ℕ → Option ℕ
collection_was old new j =
    was_at (λ (c : Collection). c.ty) (place_of_collection old) (place_of_collection new)
    old.collections new.collections j

-- the value at a place, and where there is none this one
abbrev pub value_or : {V : Type 0} → V → List V → Option ℕ → V
value_or v vs (Some i) = slice_index_or vs i v
value_or v vs None = v

-- so many values, each the one that was at its old place, and the others so
abbrev pub carried_values : {V : Type 0} → (ℕ → Option ℕ) → V → List V → ℕ → List V
carried_values was v vs n = map (λ j. value_or v vs (was j)) (range_with_len 0 n)

-- THE session after an edit: each variable and each collection that both apps have, with the same
-- type, keeps its value. The other variables are blank, and the other collections empty.
abbrev pub carried : Names → Names → SessionState → SessionState
carried old new s = record s {
  variables = carried_values (variable_was old new) blank s.variables (length new.variables);
  collections = carried_values (collection_was old new) (tab no_rows) s.collections
      (length new.collections);
  room = no_session_room;
}

-- two apps have as many screens, and controls of the same kinds
pub record AreAlike (n m : Names) : Type 0 where
  pub screens : length n.screens ≡ length m.screens
  pub controls : map (λ (c : ControlName). c.kind) n.controls
      ≡ map (λ (c : ControlName). c.kind) m.controls

-- a session that fits an app fits the edited app once it is carried
abbrev pub CarriedFits : Type 0
CarriedFits = (n m : Names) (s : SessionState) → AreAlike n m → HoldsTables m → FitsNames n s
    → FitsNames m (carried n m s)
