-- The bodies of a session's requests, as JSON.
use Rattle.std.specs.Prelude.{ℕ, ◌==◌, ◌≤◌, IfSome, List, Bool, true, false, codes, Option, Some}
use Rattle.std.specs.Prelude.{None, option_and_then, option_map, if◌then◌else◌}
use Rattle.serde_json.specs.Data as json
use Rattle.serde_json.specs.Find.{get}
use Rattle.numbered_requests.specs.GivenValues.{member_count, member_number, member_text, value_in}
use Rattle.session_requests.specs.declared.event.Event.{Event}
use Rattle.session_requests.specs.declared.event.Place.{Place}
use Rattle.session_requests.specs.declared.input.Input.{Input}

abbrev pub is_null : Option json.Data → Bool
is_null (Some json.null) = true
is_null (Some (json.boolean b)) = false
is_null (Some (json.number n)) = false
is_null (Some (json.string s)) = false
is_null (Some (json.array ds)) = false
is_null (Some (json.object ms)) = false
is_null None = false

-- an id: a number, or null where there is none
abbrev pub id_at : List ℕ → json.Data → Option (Option ℕ)
id_at key d = if is_null (get key d) then Some None else option_map (λ n. Some n)
    (member_number key d)

-- `{"at":..}` or `{"at":..,"id":..}`
abbrev pub place_member : json.Data → Option Place
place_member d =
    if member_count d == 1 then option_map (λ at. record { at = at; id = None })
    (member_number (codes "at") d)
    else (if member_count d == 2 then option_and_then
    (λ at. option_map (λ id. record { at = at; id = Some id }) (id_at (codes "id") d))
    (member_number (codes "at") d)
    else None)

-- what an event has beside its item
abbrev pub event_with : Option Place → json.Data → Option Event
event_with item d =
    option_and_then (λ seq. option_and_then (λ control. option_map
    (λ event. record { seq = seq; control = control; event = event; item = item })
    (member_text (codes "event") d)) (member_text (codes "control") d))
    (member_number (codes "seq") d)

-- `{"seq":..,"control":..,"event":..}`, and perhaps `"item":..`
abbrev pub event_in : json.Data → Option Event
event_in d =
    if member_count d == 3 then event_with None d
    else (if member_count d == 4 then option_and_then (λ item. event_with (Some item) d)
    (option_and_then place_member (get (codes "item") d))
    else None)

-- an event has a number from 1, and so has the position of its item
pub record IsSoundEvent (e : Event) : Type 0 where
  pub number : 1 ≤ e.seq
  pub item : IfSome e.item (λ (p : Place). 1 ≤ p.at)

-- `{"seq":..,"control":..,"value":..}`, where any JSON stands for the value
abbrev pub input_in : json.Data → Option Input
input_in d =
    if member_count d == 3 then
    option_and_then (λ seq. option_and_then (λ control. option_map
    (λ j. record { seq = seq; control = control; value = value_in j }) (get (codes "value") d))
    (member_text (codes "control") d)) (member_number (codes "seq") d)
    else None
