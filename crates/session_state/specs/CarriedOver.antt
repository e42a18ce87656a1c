-- What sessions keep as a whole app is replaced.
use Rattle.std.specs.Prelude.{◌<◌, ℕ, Bool, true, false, ◌&&◌, List, length, bytes_eq, slice_get}
use Rattle.std.specs.Prelude.{Option, Some, None, option_and_then, unwrap_or, if◌then◌else◌}
use Rattle.std.specs.List.{position}
use Rattle.fx_types.specs.declared.controls.Control.{Control}
use Rattle.fx_types.specs.declared.controls.Control.TheVariants as control
use Rattle.fx_core.specs.declared.names.ControlName.{ControlName}
use Rattle.fx_core.specs.declared.names.Names.{Names}
use Rattle.session_state.specs.Carrying.{carried, carried_values, is_place}
use Rattle.session_state.specs.Changes.{FitsNames, HoldsTables}
use Rattle.session_state.specs.Sessions.{SessionState}

abbrev pub is_same_kind : Control → Control → Bool
is_same_kind control.Label control.Label = true
is_same_kind control.Button control.Button = true
is_same_kind control.TextInput control.TextInput = true
is_same_kind control.Slider control.Slider = true
is_same_kind control.Checkbox control.Checkbox = true
is_same_kind control.DatePicker control.DatePicker = true
is_same_kind control.Gallery control.Gallery = true
is_same_kind a b = false

-- two controls have one name and are of one kind
abbrev pub is_same_control : ControlName → ControlName → Bool
is_same_control c d = bytes_eq c.name d.name && is_same_kind c.kind d.kind

-- where a control of the same name and kind stands among these
abbrev pub place_of_control : List ControlName → ControlName → Option ℕ
place_of_control controls d = position (λ c. is_same_control c d) controls

-- where the control at a place was among old ones: it stands for the old one and the old one for it
abbrev pub control_was : List ControlName → List ControlName → ℕ → Option ℕ
control_was olds news j =
    option_and_then (λ d. option_and_then (λ i. option_and_then
    (λ c. if is_place j (place_of_control news c) then Some i else None)
    (slice_get olds i)) (place_of_control olds d)) (slice_get news j)

abbrev pub place_of_name : List (List ℕ) → List ℕ → Option ℕ
place_of_name names name = position (λ n. bytes_eq n name) names

-- the screen of the same name, or else the first one
abbrev pub screen_over : Names → Names → ℕ → ℕ
screen_over old new k =
    unwrap_or (option_and_then (place_of_name new.screens) (slice_get old.screens k)) 0

-- of each control that both apps have, with one name and of one kind, what the user gave and chose
-- is kept; of the others nothing is given, and nothing chosen
abbrev pub with_controls : List ControlName → List ControlName → SessionState → SessionState
with_controls olds news s = record s {
  inputs = carried_values (control_was olds news) None s.inputs (length news);
  chosen = carried_values (control_was olds news) None s.chosen (length news);
  room = record {
    variables = s.room.variables;
    collections = s.room.collections;
    controls = 0;
  };
}

-- THE session after a replacement: so with what the user gave and chose, on the screen of the same
-- name or else the first one, and else as after an edit
abbrev pub carried_over : Names → Names → SessionState → SessionState
carried_over old new s = record (carried old new (with_controls old.controls new.controls s)) {
  screen = screen_over old new s.screen;
}

-- a session that fits an app fits any app that has a screen once it is carried over
abbrev pub CarriedOverFits : Type 0
CarriedOverFits = (n m : Names) (s : SessionState) → 0 < length m.screens → HoldsTables m
    → FitsNames n s → FitsNames m (carried_over n m s)
