-- The JSON of views, and of the replies to sessions.
use Rattle.std.specs.Prelude.{ℕ, List, Option, Some, None, map, codes, encode_utf8_all}
use Rattle.serde_json.specs.Data as json
use Rattle.serde_json.specs.Data.{unsigned, string, array, object, member, no_members}
use Rattle.serde_json.specs.View.{items_of}
use Rattle.serde_json.specs.Written.{compact_text}
use Rattle.fx_types.specs.Values.{Data, blank, number, text, boolean, date, rec, tab, fault}
use Rattle.fx_types.specs.Values.{field_list}
use Rattle.fx_types.specs.declared.controls.Control.{Control}
use Rattle.fx_types.specs.declared.controls.Control.TheVariants.{Label, Button, TextInput, Slider}
use Rattle.fx_types.specs.declared.controls.Control.TheVariants.{Checkbox, DatePicker, Gallery}
use Rattle.fx_types.specs.declared.faults.Fault.{Fault}
use Rattle.view_text.specs.JsonText.{value_data, fields_data, error_data}
use Rattle.view_text.specs.RefusalText.{id_data, line_data}
use Rattle.view_text.specs.declared.views.View.{View}
use Rattle.view_text.specs.declared.views.Shown.{Shown}
use Rattle.view_text.specs.declared.views.Items.{Items}
use Rattle.view_text.specs.declared.views.ItemView.{ItemView}
use Rattle.view_text.specs.declared.views.ItemControl.{ItemControl}

-- a kind of control, as app files name it
abbrev pub kind_text : Control → List ℕ
kind_text Label = codes "Label"
kind_text Button = codes "Button"
kind_text TextInput = codes "TextInput"
kind_text Slider = codes "Slider"
kind_text Checkbox = codes "Checkbox"
kind_text DatePicker = codes "DatePicker"
kind_text Gallery = codes "Gallery"

-- `{"kind":..,"name":..,"values":{..}}`
abbrev pub control_data : Control → List ℕ → List (List ℕ × Data) → json.Data
control_data kind name values =
    object (member (codes "kind") (string (kind_text kind))
    (member (codes "name") (string (encode_utf8_all name))
    (member (codes "values") (object (fields_data (field_list values))) no_members)))

abbrev pub item_control_data : ItemControl → json.Data
item_control_data c = control_data c.kind c.name c.values

-- `{"at":..,"controls":[..],"id":..}`
abbrev pub item_with : ℕ → json.Data → json.Data → json.Data
item_with at controls id = object (member (codes "at") (json.number (unsigned at))
    (member (codes "controls") controls (member (codes "id") id no_members)))

abbrev pub item_data : ItemView → json.Data
item_data i = item_with i.at (array (items_of (map item_control_data i.shown))) (id_data i.id)

-- the items, or the error that stands in their place
abbrev pub listed_data : Option Fault → List ItemView → json.Data
listed_data None list = array (items_of (map item_data list))
listed_data (Some f) list = error_data f.kind f.message

-- how many items there are, where no error stands in their place
abbrev pub items_counted : Option Fault → ℕ → ℕ
items_counted None n = n
items_counted (Some f) n = 0

abbrev pub total_of : Items → ℕ
total_of i = items_counted i.fault i.total

-- `{"items":[..],"kind":..,"name":..,"total":..}`
abbrev pub gallery_data : Control → List ℕ → Items → json.Data
gallery_data kind name i =
    object (member (codes "items") (listed_data i.fault i.list)
    (member (codes "kind") (string (kind_text kind))
    (member (codes "name") (string (encode_utf8_all name))
    (member (codes "total") (json.number (unsigned (total_of i))) no_members))))

-- a gallery shows its items, and another control its properties
abbrev pub shown_with : Option Items → Shown → json.Data
shown_with None s = control_data s.kind s.name s.values
shown_with (Some i) s = gallery_data s.kind s.name i

abbrev pub shown_data : Shown → json.Data
shown_data s = shown_with s.items s

-- `{"controls":[..],"screen":..}`
abbrev pub view_data : View → json.Data
view_data v = object (member (codes "controls") (array (items_of (map shown_data v.shown)))
    (member (codes "screen") (string (encode_utf8_all v.screen)) no_members))

abbrev pub view_text : View → List ℕ
view_text v = compact_text (view_data v)

-- `{"items":[..],"total":..}`
abbrev pub items_data : Items → json.Data
items_data i = object (member (codes "items") (listed_data i.fault i.list)
    (member (codes "total") (json.number (unsigned (total_of i))) no_members))

abbrev pub items_text : Items → List ℕ
items_text i = compact_text (items_data i)

-- a scalar or an error is told, and of a record or a table nothing
abbrev pub told_data : Data → json.Data
told_data (rec fs) = json.null
told_data (tab rs) = json.null
told_data d = value_data d

-- `{"notices":[..],"seq":..,"value":..}`
abbrev pub event_data : List (List ℕ) → ℕ → Data → json.Data
event_data notices seq value =
    object (member (codes "notices") (array (items_of (map line_data notices)))
    (member (codes "seq") (json.number (unsigned seq))
    (member (codes "value") (told_data value) no_members)))

abbrev pub event_text : List (List ℕ) → ℕ → Data → List ℕ
event_text notices seq value = compact_text (event_data notices seq value)
