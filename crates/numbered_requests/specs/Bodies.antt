-- The bodies of numbered requests, as JSON.
use Rattle.std.specs.Prelude.{ℕ, ◌==◌, List, codes, Option, None, option_and_then, option_map}
use Rattle.std.specs.Prelude.{if◌then◌else◌}
use Rattle.std.specs.Str.{is_utf8}
use Rattle.serde_json.specs.Data as json
use Rattle.serde_json.specs.Read.{read}
use Rattle.numbered_requests.specs.GivenValues.{member_count, member_number, member_text}
use Rattle.numbered_requests.specs.declared.edit.Edit.{Edit}

-- the JSON that a body is, where it is one: a text in UTF-8, nested at most 127 deep
abbrev pub json_of : List ℕ → Option json.Data
json_of body = if is_utf8 body then read body else None

-- `{"seq":..,"cell":..,"text":..}`
abbrev pub edit_in : json.Data → Option Edit
edit_in d =
    if member_count d == 3 then option_and_then
    (λ seq. option_and_then (λ cell. option_map
    (λ text. record { seq = seq; cell = cell; text = text }) (member_text (codes "text") d))
    (member_text (codes "cell") d)) (member_number (codes "seq") d)
    else None
