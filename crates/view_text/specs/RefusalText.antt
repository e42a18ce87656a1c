-- The JSON of refusals.
use Rattle.std.specs.Prelude.{◌≡◌, ◌⊎◌, ◌≢◌, ℕ, List, Option, Some, None, map, codes}
use Rattle.std.specs.Prelude.{encode_utf8_all}
use Rattle.std.specs.Int.{IsInRange}
use Rattle.serde_json.specs.Data.{Data, null, number, unsigned, string, array, object, member}
use Rattle.serde_json.specs.Data.{no_members}
use Rattle.serde_json.specs.View.{items_of}
use Rattle.serde_json.specs.Written.{compact_text}
use Rattle.view_text.specs.Refusals.{name_of_code}
use Rattle.view_text.specs.JsonText.{tagged}
use Rattle.view_text.specs.declared.refused.Refusal.{Refusal}
use Rattle.view_text.specs.declared.refused.Detail.{Detail}
use Rattle.view_text.specs.declared.refused.Detail.TheVariants as detail

-- the refusal with this number has this kind of detail
abbrev pub Fits : ℕ → Detail → Type 0
Fits code detail.None = IsInRange 1 28 code × (code ≢ 13) × (code ≢ 19) × (code ≢ 23) × (code ≢ 24)
    × (code ≢ 27) × (code ≢ 28)
Fits code (detail.Number n) = code ≡ 13
Fits code (detail.Id id) = code ≡ 19
Fits code (detail.Row at column rule) = (code ≡ 23) ⊎ (code ≡ 28)
Fits code (detail.Lines lines) = code ≡ 24
Fits code (detail.Move table column rule) = code ≡ 27

-- a number, or null
abbrev pub id_data : Option ℕ → Data
id_data None = null
id_data (Some n) = number (unsigned n)

-- `{"at":..,"column":..,"rule":..}`
abbrev pub row_data : ℕ → List ℕ → List ℕ → Data
row_data at column rule = object (member (codes "at") (number (unsigned at))
    (member (codes "column") (string column) (member (codes "rule") (string rule) no_members)))

-- `{"column":..,"rule":..,"table":..}`
abbrev pub move_data : List ℕ → List ℕ → List ℕ → Data
move_data table column rule = object (member (codes "column") (string column)
    (member (codes "rule") (string rule) (member (codes "table") (string table) no_members)))

abbrev pub line_data : List ℕ → Data
line_data line = string (encode_utf8_all line)

abbrev pub detail_data : Detail → Data
detail_data detail.None = null
detail_data (detail.Number n) = number (unsigned n)
detail_data (detail.Id id) = id_data id
detail_data (detail.Row at column rule) = row_data at (encode_utf8_all column)
    (encode_utf8_all rule)
detail_data (detail.Lines lines) = array (items_of (map line_data lines))
detail_data (detail.Move table column rule) = move_data (encode_utf8_all table)
    (encode_utf8_all column) (encode_utf8_all rule)

-- `{"refused":{"code":..,"detail":..,"name":..}}`
abbrev pub refusal_data : Refusal → Data
refusal_data r = tagged (codes "refused")
    (object (member (codes "code") (number (unsigned r.code))
    (member (codes "detail") (detail_data r.detail)
    (member (codes "name") (string (name_of_code r.code)) no_members))))

abbrev pub refusal_text : Refusal → List ℕ
refusal_text r = compact_text (refusal_data r)
