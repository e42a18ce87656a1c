-- Controls that requests name, and whether they are shown.
use Rattle.std.specs.Prelude.{ℕ, ◌==◌, ◌&&◌, Bool, bytes_eq, List, map, Option, unwrap_or}
use Rattle.std.specs.List.{position, slice_index_or}
use Rattle.recalc.specs.app_semantics.Properties.{is_visible}
use Rattle.fx_types.specs.ValueView.{view}
use Rattle.fx_types.specs.Values.{Data, blank}
use Rattle.fx_types.specs.declared.values.Value.{Value}
use Rattle.fx_core.specs.declared.names.ControlName.{ControlName}
use Rattle.fx_core.specs.declared.names.Names.{Names}
use Rattle.session_state.specs.Sessions.{SessionState}

-- the number of the control of this name
abbrev pub control_number : List ℕ → Names → Option ℕ
control_number name n = position (λ (c : ControlName). bytes_eq c.name name) n.controls

-- A control is on the current screen and visible. In the place of one that stands in a gallery the
-- gallery is: the control is visible for each item by itself.
abbrev pub is_shown_or_in_shown_gallery : Names → SessionState → (ℕ → Data) → ℕ → ControlName → Bool
is_shown_or_in_shown_gallery n s values k c = (c.screen == s.screen)
    && is_visible n values (unwrap_or c.gallery k)

-- the values of cells by their numbers; where there is no cell, blank
abbrev pub cell_values : List Value → ℕ → Data
cell_values vs k = slice_index_or (map view vs) k blank
