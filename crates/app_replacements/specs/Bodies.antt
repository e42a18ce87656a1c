-- The bodies of requests that replace a whole app, as JSON.
use Rattle.std.specs.Prelude.{ℕ, ◌==◌, ◌≤◌, ◌&&◌, nat_le, List, [], ◌∷◌, length, codes, Option}
use Rattle.std.specs.Prelude.{Some, None, is_some, option_and_then, option_map, if◌then◌else◌}
use Rattle.serde_json.specs.Data as json
use Rattle.serde_json.specs.Find.{get}
use Rattle.app_moves.specs.declared.moves.Move.{Move}
use Rattle.app_replacements.specs.declared.body.Replacement.{Replacement}
use Rattle.numbered_requests.specs.GivenValues.{items_at, member_count, member_number, member_text}

-- the app that is to come, as JSON
abbrev pub app_in : json.Data → Option json.Data
app_in d = get (codes "app") d

-- `{"table":..,"to":..}`
abbrev pub table_move_in : json.Data → Option Move
table_move_in d = option_and_then
    (λ table. option_map (λ to. record { table = table; column = None; to = to })
    (member_text (codes "to") d)) (member_text (codes "table") d)

-- `{"table":..,"column":..,"to":..}`
abbrev pub column_move_in : json.Data → Option Move
column_move_in d = option_and_then
    (λ column. option_map (λ (m : Move). record m { column = Some column }) (table_move_in d))
    (member_text (codes "column") d)

abbrev pub move_in : json.Data → Option Move
move_in d =
    if member_count d == 2 then table_move_in d
    else (if member_count d == 3 then column_move_in d else None)

-- each of these is a move
abbrev pub moves_in : json.Items → Option (List Move)
moves_in json.no_items = Some []
moves_in (json.item d ds) = option_and_then (λ m. option_map (λ ms. m ∷ ms) (moves_in ds))
    (move_in d)

-- at most 2,000 of them
abbrev pub if_few : List Move → Option (List Move)
if_few ms = if nat_le (length ms) 2000 then Some ms else None

-- `{"seq":..,"app":..,"moves":[..]}`, where the app may be any JSON
abbrev pub replaced_in : json.Data → Option Replacement
replaced_in d =
    if member_count d == 3 && is_some (app_in d) then
    option_and_then (λ seq. option_map (λ ms. record { seq = seq; moves = ms })
    (option_and_then if_few (option_and_then moves_in (items_at (codes "moves") d))))
    (member_number (codes "seq") d)
    else None

-- few moves are asked for, under a number from 1
pub record IsSoundReplacement (r : Replacement) : Type 0 where
  pub number : 1 ≤ r.seq
  pub few : length r.moves ≤ 2000
