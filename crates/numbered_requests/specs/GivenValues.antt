-- Values as they come in, and the members of objects.
use Rattle.std.specs.Prelude.{ℕ, ◌*◌, ◌&&◌, nat_le, ℤ, pos, ◌*ℤ◌, List}
use Rattle.std.specs.Prelude.{codes, bytes_eq, Option, Some, None, option_and_then}
use Rattle.std.specs.Prelude.{option_map, if◌then◌else◌}
use Rattle.serde_json.specs.Data as json
use Rattle.serde_json.specs.Data.{Members, no_members, member}
use Rattle.serde_json.specs.Events.{members_len}
use Rattle.serde_json.specs.Find.{as_array, as_i64, as_number, as_object, as_str, as_u64, get}
use Rattle.fx_types.specs.Values.{Data, blank, number, text, boolean, date}
use Rattle.fx_types.specs.Words.{scalars_of}
use Rattle.field_texts.specs.Spelled.{spelled_day, spelled_number, units_in_range}

-- ---- values

-- the number that a JSON number is: a whole one in range
abbrev pub whole_number : json.Num → Option ℤ
whole_number n = option_and_then (λ z. units_in_range (z *ℤ pos 10000)) (as_i64 n)

-- `{"n":".."}` is a number, and `{"d":".."}` a date
abbrev pub tagged_value : List ℕ → List ℕ → Option Data
tagged_value key s =
    if bytes_eq key (codes "n") then option_map number (spelled_number s)
    else (if bytes_eq key (codes "d") then option_map date (spelled_day s) else None)

-- an object of one member whose value is a text may be a value
abbrev pub member_value : Members → Option Data
member_value (member key (json.string s) no_members) = tagged_value key s
member_value ms = None

-- THE value that JSON is, where it is one
abbrev pub value_in : json.Data → Option Data
value_in json.null = Some blank
value_in (json.boolean b) = Some (boolean b)
value_in (json.number n) = option_map number (whole_number n)
value_in (json.string s) = Some (text (scalars_of s))
value_in (json.array ds) = None
value_in (json.object ms) = member_value ms

-- ---- members

-- how many members an object has
abbrev pub member_count : json.Data → ℕ
member_count (json.object ms) = members_len ms
member_count d = 0

-- a member that is a text, in bytes and in scalar values, one that is a whole number from 1 to
-- 4,294,967,295, and one that is a list or an object
abbrev pub bytes_at : List ℕ → json.Data → Option (List ℕ)
bytes_at key d = option_and_then as_str (get key d)

abbrev pub member_text : List ℕ → json.Data → Option (List ℕ)
member_text key d = option_map scalars_of (bytes_at key d)

abbrev pub if_counted : ℕ → Option ℕ
if_counted n = if nat_le 1 n && nat_le n 4294967295 then Some n else None

abbrev pub member_number : List ℕ → json.Data → Option ℕ
member_number key d = option_and_then if_counted
    (option_and_then as_u64 (option_and_then as_number (get key d)))

abbrev pub items_at : List ℕ → json.Data → Option json.Items
items_at key d = option_and_then as_array (get key d)

abbrev pub members_at : List ℕ → json.Data → Option Members
members_at key d = option_and_then as_object (get key d)
