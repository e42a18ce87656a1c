-- The values of properties, and which controls are visible.
use Rattle.std.specs.Prelude.{◌≡◌, ℕ, List, Bool, true, false, codes, Option, Some, None, slice_get}
use Rattle.app_cells.specs.Leaning.{cell_of_property}
use Rattle.app_cells.specs.declared.app.CellInfo.{CellInfo}
use Rattle.app_semantics.specs.Fresh.{IsValueOf}
use Rattle.app_semantics.specs.Present.{Present, cell_value_or}
use Rattle.fx_types.specs.Values.{Data, boolean}
use Rattle.fx_core.specs.declared.names.Names.{Names}

-- the value of a control's property, by the bytes of its name, and another value where it isn't
-- written
abbrev pub property_value : Names → (ℕ → Data) → ℕ → List ℕ → Data → Data
property_value n values k name unwritten = cell_value_or values unwritten
    (cell_of_property n k name)

-- the value of a cell of a template for an item, and another where there is no cell
abbrev pub IsForItem : Present → (ℕ → Data) → Data → Data → Option ℕ → Data → Type 0
IsForItem p values item unwritten None v = v ≡ unwritten
IsForItem p values item unwritten (Some k) v = (c : CellInfo) × (slice_get p.app.cells k ≡ Some c)
    × IsValueOf p values (Some item) c v

abbrev pub IsPropertyForItem : Present → (ℕ → Data) → Data → ℕ → List ℕ → Data → Data → Type 0
IsPropertyForItem p values item k name unwritten v
    = IsForItem p values item unwritten (cell_of_property p.app.names k name) v

abbrev pub is_true : Data → Bool
is_true (boolean b) = b
is_true d = false

-- a control is visible by itself
abbrev pub is_visible : Names → (ℕ → Data) → ℕ → Bool
is_visible n values k = is_true (property_value n values k (codes "Visible") (boolean true))
