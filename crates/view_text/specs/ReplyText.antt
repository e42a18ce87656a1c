-- The JSON of small replies.
use Rattle.std.specs.Prelude.{ℕ, List, true, map, codes, encode_utf8_all}
use Rattle.serde_json.specs.Data.{Data, boolean, string, array, object, member, no_members}
use Rattle.serde_json.specs.View.{items_of}
use Rattle.serde_json.specs.Written.{compact_text}
use Rattle.fx_types.specs.ValueView.{view}
use Rattle.view_text.specs.JsonText.{tagged, value_data}
use Rattle.view_text.specs.declared.replies.Named.{Named}

-- `{"name":..,"value":..}`
abbrev pub named_data : Named → Data
named_data n = object (member (codes "name") (string (encode_utf8_all n.name))
    (member (codes "value") (value_data (view n.value)) no_members))

-- `{"named":[..]}`, in order
abbrev pub all_named_data : List Named → Data
all_named_data ns = tagged (codes "named") (array (items_of (map named_data ns)))

abbrev pub named_text : List Named → List ℕ
named_text ns = compact_text (all_named_data ns)

-- `{"ok":true}`
abbrev pub ok_text : List ℕ
ok_text = compact_text (tagged (codes "ok") (boolean true))
