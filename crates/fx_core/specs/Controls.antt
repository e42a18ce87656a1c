-- The properties of controls. Names are given by their bytes.
use Rattle.std.specs.Prelude.{ℕ, List, Bool, true, false, ◌||◌, Option, Some, None, is_some, codes}
use Rattle.std.specs.Prelude.{bytes_eq, if◌then◌else◌}
use Rattle.fx_types.specs.Types.{Shape, numbers, texts, booleans, dates}
use Rattle.fx_types.specs.declared.controls.Control.{Control}
use Rattle.fx_types.specs.declared.controls.Control.TheVariants as control

-- the pure properties of each kind, Visible and Items aside
abbrev pub own_type : Control → List ℕ → Option Shape
own_type control.Label n = if bytes_eq n (codes "Text") then Some texts else None
own_type control.Button n = if bytes_eq n (codes "Text") then Some texts else None
own_type control.TextInput n = if bytes_eq n (codes "Default") then Some texts else None
own_type control.Slider n = if bytes_eq n (codes "Min") || bytes_eq n (codes "Max")
    || bytes_eq n (codes "Default") then Some numbers else None
own_type control.Checkbox n = if bytes_eq n (codes "Text") then Some texts else
    (if bytes_eq n (codes "Default") then Some booleans else None)
own_type control.DatePicker n = if bytes_eq n (codes "DefaultDate") then Some dates else None
own_type control.Gallery n = None

-- the type of a pure property, Items aside
abbrev pub property_type : Control → List ℕ → Option Shape
property_type c n = if bytes_eq n (codes "Visible") then Some booleans else own_type c n

-- whether a property's formula is one that acts
abbrev pub is_behaviour : Control → List ℕ → Bool
is_behaviour control.Label n = bytes_eq n (codes "OnSelect")
is_behaviour control.Button n = bytes_eq n (codes "OnSelect")
is_behaviour control.Gallery n = bytes_eq n (codes "OnSelect")
is_behaviour control.TextInput n = bytes_eq n (codes "OnChange")
is_behaviour control.Slider n = bytes_eq n (codes "OnChange")
is_behaviour control.DatePicker n = bytes_eq n (codes "OnChange")
is_behaviour control.Checkbox n = bytes_eq n (codes "OnCheck") || bytes_eq n (codes "OnUncheck")

-- whether a property is the rows of a gallery
abbrev pub is_items : Control → List ℕ → Bool
is_items control.Gallery n = bytes_eq n (codes "Items")
is_items c n = false

-- whether a kind has a property
abbrev pub has_property : Control → List ℕ → Bool
has_property c n = is_some (property_type c n) || is_behaviour c n || is_items c n

-- the type of what the user gives
abbrev pub input_type : Control → Option Shape
input_type control.TextInput = Some texts
input_type control.Slider = Some numbers
input_type control.Checkbox = Some booleans
input_type control.DatePicker = Some dates
input_type c = None
