-- The bodies of imports.
use Rattle.std.specs.Prelude.{◌==◌, ◌≤◌, codes, Option, None, option_and_then, option_map}
use Rattle.std.specs.Prelude.{if◌then◌else◌}
use Rattle.serde_json.specs.Data as json
use Rattle.numbered_requests.specs.GivenValues.{member_count, member_number, member_text}
use Rattle.csv_requests.specs.declared.bodies.Imported.{Imported}

-- `{"seq":..,"table":..,"key":..,"csv":..}`
abbrev pub imported_in : json.Data → Option Imported
imported_in d =
    if member_count d == 4 then option_and_then
    (λ seq. option_and_then (λ table. option_and_then (λ key. option_map
    (λ csv. record { seq = seq; table = table; key = key; csv = csv })
    (member_text (codes "csv") d)) (member_text (codes "key") d))
    (member_text (codes "table") d)) (member_number (codes "seq") d)
    else None

-- it has a number from 1
pub record IsSoundImport (p : Imported) : Type 0 where
  pub number : 1 ≤ p.seq
