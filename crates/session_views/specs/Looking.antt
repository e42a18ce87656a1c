-- The cells that are looked at when controls are shown.
use Rattle.std.specs.Prelude.{◌≡◌, ◌↔◌, ◌⊎◌, ℕ, ◌==◌, ◌&&◌, List, Bool, true, false, not, is_none}
use Rattle.std.specs.Prelude.{Option, Some, None, option_map, slice_get, unwrap_or}
use Rattle.std.specs.List.{Contains}
use Rattle.recalc.specs.app_cells.Leaning.{LeansOn}
use Rattle.recalc.specs.app_cells.declared.app.App.{App}
use Rattle.recalc.specs.app_cells.declared.app.CellInfo.{CellInfo}
use Rattle.recalc.specs.app_semantics.Needed.{IsFreshAt, is_alone}
use Rattle.recalc.specs.app_semantics.Present.{Present}
use Rattle.fx_types.specs.Values.{Data}
use Rattle.fx_core.specs.declared.names.ControlName.{ControlName}
use Rattle.fx_core.specs.declared.names.Names.{Names}
use Rattle.fx_core.specs.declared.names.Property.{Property}
use Rattle.session_views.specs.declared.roots.Part.{Part}
use Rattle.session_views.specs.declared.roots.Part.TheVariants as part

-- ---- controls

-- a control stands on a screen, and in no gallery
abbrev pub is_on_screen : Names → ℕ → ℕ → Bool
is_on_screen n s k = unwrap_or (option_map (λ (c : ControlName). is_none c.gallery
    && (c.screen == s)) (slice_get n.controls k)) false

-- it is this one
abbrev pub is_it : ℕ → ℕ → Bool
is_it g k = k == g

-- the controls of a part of what is shown
abbrev pub is_control_among : Names → Part → ℕ → Bool
is_control_among n (part.Screen s) k = is_on_screen n s k
is_control_among n (part.Gallery g) k = is_it g k

-- a gallery is one of these, if there is one
abbrev pub is_one : (ℕ → Bool) → Option ℕ → Bool
is_one of (Some g) = of g
is_one of None = false

-- ---- cells

-- a cell is the formula of a property of these controls
abbrev pub IsOwnCell : Names → (ℕ → Bool) → Property → ℕ → Type 0
IsOwnCell n of p k = (of p.control ≡ true) × (p.cell ≡ k)

-- a formula stands in the template of a gallery of these: it sees an item of it, and doesn't act
abbrev pub is_in_template : (ℕ → Bool) → CellInfo → Bool
is_in_template of c = not c.cell.acts && is_one of c.cell.item

-- such a formula leans on a cell
abbrev pub IsLeanedOn : Names → (ℕ → Bool) → CellInfo → ℕ → Type 0
IsLeanedOn n of c k = (is_in_template of c ≡ true) × LeansOn n c k

-- it is so through one of these
abbrev pub IsThrough : {A : Type 0} → (A → ℕ → Type 0) → List A → ℕ → Type 0
IsThrough {A} P xs k = (i : ℕ) × (x : A) × (slice_get xs i ≡ Some x) × P x k

-- A CELL IS LOOKED AT for these controls: it is the formula of a property of one of them, or a
-- formula leans on it that stands in the template of one
abbrev pub IsLookedAt : App → (ℕ → Bool) → ℕ → Type 0
IsLookedAt a of k = IsThrough (IsOwnCell a.names of) a.names.properties k
    ⊎ IsThrough (IsLeanedOn a.names of) a.cells k

-- these are the cells that are looked at, but those that have no value by themselves
abbrev pub AreLookedAt : App → (ℕ → Bool) → List ℕ → Type 0
AreLookedAt a of roots = (k : ℕ) → Contains roots k
    ↔ (IsLookedAt a of k × (is_alone a.cells k ≡ true))

-- the cells that are looked at have their fresh values
abbrev pub AreFreshFor : Present → (ℕ → Data) → (ℕ → Bool) → Type 0
AreFreshFor p values of = (k : ℕ) → IsLookedAt p.app of k → IsFreshAt p values k
