-- The form of an app file.
use Rattle.std.specs.Prelude.{ℕ, List, [], ◌∷◌, Bool, true, false, ◌&&◌, nat_le, Option, Some, None}
use Rattle.std.specs.Prelude.{option_and_then, is_some, codes, bytes_eq, if◌then◌else◌}
use Rattle.std.specs.List.{position_from}
use Rattle.serde_json.specs.Data.{Data}
use Rattle.serde_json.specs.Find.{as_bool, as_number, as_str, as_u64, get}
use Rattle.fx_types.specs.declared.controls.Control.{Control}
use Rattle.fx_types.specs.declared.controls.Control.TheVariants as control
use Rattle.fx_types.specs.declared.types.Ty.{Ty}
use Rattle.fx_types.specs.declared.types.Ty.TheVariants as ty
use Rattle.app_file.specs.declared.leaves.Format.{Format}
use Rattle.app_file.specs.declared.leaves.Format.TheVariants.{First}
use Rattle.app_file.specs.Forms.{Form, such, in_turn, members, by_itself, Fields, no_more, field}
use Rattle.app_file.specs.Forms.{elements}

-- a member that must stand, and one that may
abbrev pub must : List ℕ → Form → Fields → Fields
must = field true

abbrev pub may : List ℕ → Form → Fields → Fields
may = field false

-- data of which something is told, and a list of which each element has one form
abbrev pub leaf : {A : Type 0} → (Data → Option A) → Form
leaf f = such (λ d. is_some (f d))

abbrev pub each : Form → Form
each f = in_turn (λ before. f)

abbrev pub anything : Form
anything = such (λ d. true)

-- a text, and one that isn't empty
abbrev pub nonempty : List ℕ → Option (List ℕ)
nonempty [] = None
nonempty (c ∷ text) = Some (c ∷ text)

abbrev pub filled_text : Data → Option (List ℕ)
filled_text d = option_and_then nonempty (as_str d)

-- the one format
abbrev pub format_named : List ℕ → Option Format
format_named t = if bytes_eq t (codes "pfx-1") then Some First else None

abbrev pub format_member : Data → Option Format
format_member d = option_and_then format_named (as_str d)

-- a whole number from 1 to 2,000
abbrev pub row_limit_of_number : ℕ → Option ℕ
row_limit_of_number n = if nat_le 1 n && nat_le n 2000 then Some n else None

abbrev pub row_limit_of : Data → Option ℕ
row_limit_of d = option_and_then row_limit_of_number (option_and_then as_u64 (as_number d))

-- the types of columns, by their names
abbrev pub type_named : List ℕ → Option Ty
type_named t =
    if bytes_eq t (codes "Number") then Some ty.Number
    else (if bytes_eq t (codes "Text") then Some ty.Text
    else (if bytes_eq t (codes "Boolean") then Some ty.Boolean
    else (if bytes_eq t (codes "Date") then Some ty.Date else None)))

abbrev pub column_type_of : Data → Option Ty
column_type_of d = option_and_then type_named (as_str d)

-- the kinds of controls, by their names
abbrev pub kind_named : List ℕ → Option Control
kind_named t =
    if bytes_eq t (codes "Label") then Some control.Label
    else (if bytes_eq t (codes "Button") then Some control.Button
    else (if bytes_eq t (codes "TextInput") then Some control.TextInput
    else (if bytes_eq t (codes "Slider") then Some control.Slider
    else (if bytes_eq t (codes "Checkbox") then Some control.Checkbox
    else (if bytes_eq t (codes "DatePicker") then Some control.DatePicker
    else (if bytes_eq t (codes "Gallery") then Some control.Gallery else None))))))

abbrev pub control_kind : Data → Option Control
control_kind d = option_and_then kind_named (as_str d)

abbrev pub text : Form
text = leaf as_str

abbrev pub name : Form
name = leaf filled_text

abbrev pub flag : Form
flag = leaf as_bool

abbrev pub column_fields : Fields
column_fields =
    must (codes "name") name (must (codes "type") (leaf column_type_of)
    (may (codes "required") flag (may (codes "unique") flag
    (may (codes "indexed") flag no_more))))

abbrev pub table_fields : Fields
table_fields = must (codes "name") name (must (codes "columns") (each (members column_fields))
    no_more)

-- the properties of each kind in the order of apps: Visible, the others that are pure, and those
-- that act
abbrev pub property_names : Control → List (List ℕ)
property_names control.Label = codes "Visible" ∷ codes "Text" ∷ codes "OnSelect" ∷ []
property_names control.Button = codes "Visible" ∷ codes "Text" ∷ codes "OnSelect" ∷ []
property_names control.TextInput = codes "Visible" ∷ codes "Default" ∷ codes "OnChange" ∷ []
property_names control.Slider = codes "Visible" ∷ codes "Min" ∷ codes "Max" ∷ codes "Default"
    ∷ codes "OnChange" ∷ []
property_names control.Checkbox = codes "Visible" ∷ codes "Text" ∷ codes "Default" ∷ codes "OnCheck"
    ∷ codes "OnUncheck" ∷ []
property_names control.DatePicker = codes "Visible" ∷ codes "DefaultDate" ∷ codes "OnChange" ∷ []
property_names control.Gallery = codes "Visible" ∷ codes "Items" ∷ codes "OnSelect" ∷ []

abbrev pub texts_at : List (List ℕ) → Fields
texts_at [] = no_more
texts_at (key ∷ keys) = may key text (texts_at keys)

abbrev pub properties_form : Control → Form
properties_form kind = members (texts_at (property_names kind))

-- labels and buttons alone stand in galleries
abbrev pub may_stand_in_gallery : Control → Bool
may_stand_in_gallery control.Label = true
may_stand_in_gallery control.Button = true
may_stand_in_gallery kind = false

-- the text of a member is this
abbrev pub is_this : List ℕ → Option (List ℕ) → Bool
is_this t None = false
is_this t (Some other) = bytes_eq other t

abbrev pub is_text_at : List ℕ → List ℕ → Data → Bool
is_text_at key t d = is_this t (option_and_then as_str (get key d))

-- a control is a gallery of this name
abbrev pub is_gallery_shape : List ℕ → Data → Bool
is_gallery_shape x d = is_text_at (codes "name") x d
    && is_text_at (codes "kind") (codes "Gallery") d

-- the place of the first gallery of this name among these controls
abbrev pub gallery_place : List Data → List ℕ → Option ℕ
gallery_place before x = position_from (is_gallery_shape x) 0 before

-- the place of the gallery that is named, before a control of this kind, which may stand in it
abbrev pub gallery_before : List Data → Control → Data → Option ℕ
gallery_before before kind d = if may_stand_in_gallery kind then option_and_then
    (gallery_place before) (as_str d) else None

-- what a kind asks of its control
abbrev pub control_fields : List Data → Option Control → Fields
control_fields before (Some kind) =
    must (codes "name") name (must (codes "kind") (leaf control_kind)
    (may (codes "in") (leaf (gallery_before before kind))
    (may (codes "properties") (properties_form kind) no_more)))
control_fields before None =
    must (codes "name") name (must (codes "kind") (leaf control_kind)
    (may (codes "in") anything (may (codes "properties") anything no_more)))

abbrev pub kind_member : Data → Option Control
kind_member d = option_and_then control_kind (get (codes "kind") d)

-- a control behind these of its screen
abbrev pub control_form : List Data → Form
control_form before = by_itself (λ d. members (control_fields before (kind_member d)))

abbrev pub screen_fields : Fields
screen_fields = must (codes "name") name (may (codes "onVisible") text
    (must (codes "controls") (in_turn control_form) no_more))

-- one screen at least
abbrev pub is_empty_list : Option (List Data) → Bool
is_empty_list None = false
is_empty_list (Some []) = true
is_empty_list (Some (d ∷ ds)) = false

abbrev pub screens_form_of : Bool → Form
screens_form_of true = such (λ d. false)
screens_form_of false = each (members screen_fields)

abbrev pub screens_form : Form
screens_form = by_itself (λ d. screens_form_of (is_empty_list (elements d)))

-- THE FORM OF AN APP FILE
abbrev pub app_fields : Fields
app_fields =
    must (codes "format") (leaf format_member)
    (may (codes "rowLimit") (leaf row_limit_of)
    (may (codes "tables") (each (members table_fields))
    (may (codes "formulas") text (may (codes "onStart") text
    (must (codes "screens") screens_form no_more)))))

abbrev pub app_form : Form
app_form = members app_fields
