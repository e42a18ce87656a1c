-- Which row of a gallery's items is chosen.
use Rattle.std.specs.Prelude.{ℕ, zero, suc, pos, ◌*◌, ◌/◌, ◌%◌, ◌==◌, ◌&&◌, List, Bool, false}
use Rattle.std.specs.Prelude.{Option, Some, None, if◌then◌else◌, nat_le, slice_get}
use Rattle.std.specs.List.{find}
use Rattle.std.specs.Ordering.{int_eq}
use Rattle.fx_types.specs.Lookup.{item_named}
use Rattle.fx_types.specs.Values.{Data, blank, number, fault}
use Rattle.fx_semantics.specs.Around.{record_of}
use Rattle.fx_semantics.specs.Rows.{rows_in}
use Rattle.fx_value.specs.Columns.{Row}
use Rattle.fx_core.specs.Lawful.{id_name}

-- a row has this number as its ID
abbrev pub is_number : ℕ → Option Data → Bool
is_number id (Some (number z)) = int_eq z (pos (id * 10000))
is_number id d = false

abbrev pub is_item_of_id : ℕ → Row → Bool
is_item_of_id id r = is_number id (item_named id_name r)

-- the row at a position, counted from 1
abbrev pub row_at_position : ℕ → List Row → Option Row
row_at_position zero rows = None
row_at_position (suc i) rows = slice_get rows i

-- What is chosen: the first row where nothing is, the first row of the id where one was chosen,
-- else the row at the position.
abbrev pub chosen_row : Option (ℕ × Option ℕ) → List Row → Option Row
chosen_row None rows = slice_get rows 0
chosen_row (Some (at, Some id)) rows = find (is_item_of_id id) rows
chosen_row (Some (at, None)) rows = row_at_position at rows

abbrev pub row_or_blank : Option Row → Data
row_or_blank (Some r) = record_of r
row_or_blank None = blank

-- the chosen row of these items, or blank where there is none; of an error the error
abbrev pub chosen_of : Option (ℕ × Option ℕ) → Data → Data
chosen_of c (fault k cs) = fault k cs
chosen_of c d = row_or_blank (chosen_row c (rows_in d))

-- an item's id: its ID where that is a whole number from 1 to 4,294,967,295
abbrev pub id_of : Option Data → Option ℕ
id_of (Some (number (pos z))) = if (z % 10000 == 0)
    && (nat_le 1 (z / 10000) && nat_le (z / 10000) 4294967295) then Some (z / 10000) else None
id_of d = None

abbrev pub item_id : Row → Option ℕ
item_id r = id_of (item_named id_name r)
