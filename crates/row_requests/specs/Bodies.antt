-- The bodies of requests that change rows.
use Rattle.std.specs.Prelude.{ℕ, ◌==◌, ◌&&◌, ◌≤◌, nat_le, List, [], ◌∷◌, length, codes, bytes_eq}
use Rattle.std.specs.Prelude.{Option, Some, None, option_and_then, option_map, if◌then◌else◌}
use Rattle.serde_json.specs.Data as json
use Rattle.numbered_requests.specs.GivenValues.{bytes_at, items_at, member_count, members_at}
use Rattle.numbered_requests.specs.GivenValues.{member_number, member_text}
use Rattle.row_requests.specs.GivenRows.{given_in}
use Rattle.row_requests.specs.declared.bodies.Posted.{Posted}
use Rattle.row_requests.specs.declared.bodies.Change.{Change}
use Rattle.row_requests.specs.declared.bodies.Change.TheVariants.{Add, Replace, Remove}

-- `{"op":"add","table":..,"row":{..}}`
abbrev pub added_in : json.Data → Option Change
added_in d =
    if member_count d == 3 then option_and_then
    (λ table. option_map (λ ms. Add table (given_in ms)) (members_at (codes "row") d))
    (member_text (codes "table") d)
    else None

-- `{"op":"change","table":..,"id":..,"row":{..}}`
abbrev pub replaced_in : json.Data → Option Change
replaced_in d =
    if member_count d == 4 then option_and_then
    (λ table. option_and_then (λ id. option_map (λ ms. Replace table id (given_in ms))
    (members_at (codes "row") d)) (member_number (codes "id") d))
    (member_text (codes "table") d)
    else None

-- `{"op":"remove","table":..,"id":..}`
abbrev pub removed_in : json.Data → Option Change
removed_in d =
    if member_count d == 3 then option_and_then
    (λ table. option_map (λ id. Remove table id) (member_number (codes "id") d))
    (member_text (codes "table") d)
    else None

abbrev pub change_by : List ℕ → json.Data → Option Change
change_by op d =
    if bytes_eq op (codes "add") then added_in d
    else (if bytes_eq op (codes "change") then replaced_in d
    else (if bytes_eq op (codes "remove") then removed_in d else None))

abbrev pub change_in : json.Data → Option Change
change_in d = option_and_then (λ op. change_by op d) (bytes_at (codes "op") d)

-- each of these is a change
abbrev pub changes_in : json.Items → Option (List Change)
changes_in json.no_items = Some []
changes_in (json.item d ds) = option_and_then (λ c. option_map (λ cs. c ∷ cs) (changes_in ds))
    (change_in d)

-- 1 to 1,000 of them
abbrev pub if_few : List Change → Option (List Change)
if_few cs = if nat_le 1 (length cs) && nat_le (length cs) 1000 then Some cs else None

-- `{"seq":..,"changes":[..]}`
abbrev pub posted_in : json.Data → Option Posted
posted_in d =
    if member_count d == 2 then
    option_and_then (λ seq. option_map (λ cs. record { seq = seq; changes = cs })
    (option_and_then if_few (option_and_then changes_in (items_at (codes "changes") d))))
    (member_number (codes "seq") d)
    else None

-- few changes are posted, under a number from 1
pub record IsSoundPost (p : Posted) : Type 0 where
  pub number : 1 ≤ p.seq
  pub few : length p.changes ≤ 1000
