-- The first and the last rows of a table, and how many there are.
use Rattle.std.specs.Prelude.{ℕ, ◌-◌, ◌==◌, ℤ, pos, List, length, take, drop, reverse, Option, Some}
use Rattle.std.specs.Prelude.{None}
use Rattle.fx_types.specs.Values.{Data, number, boolean, tab, fault, row_list}
use Rattle.fx_primitives.specs.Numbers.{whole_part_of}
use Rattle.fx_tables.specs.RowCalls.{first_row_record}
use Rattle.fx_value.specs.Columns.{Row}

-- the last row as a record, or blank where there is none
abbrev pub last_of : List Row → Data
last_of rows = first_row_record (reverse rows)

-- a whole number as a count: none where it is negative
abbrev pub natural : ℤ → ℕ
natural (pos n) = n
natural z = 0

-- how many rows a number asks for: it is cut towards zero, and a blank one is 0
abbrev pub count_in : Data → ℕ
count_in (number z) = natural (whole_part_of z)
count_in d = 0

-- the same where the number may be left out: then it is one row
abbrev pub count_asked : Option Data → ℕ
count_asked (Some d) = count_in d
count_asked None = 1

-- an error in place of the number is the answer, else a table of rows
abbrev pub unless_error : Option Data → List Row → Data
unless_error (Some (fault k cs)) rows = fault k cs
unless_error count rows = tab (row_list rows)

-- `FirstN` and `LastN`: so many rows, or all where there are fewer
abbrev pub first_rows : List Row → Option Data → Data
first_rows rows count = unless_error count (take (count_asked count) rows)

abbrev pub last_rows : List Row → Option Data → Data
last_rows rows count = unless_error count (drop (length rows - count_asked count) rows)

-- `IsEmpty`: whether there is no row
abbrev pub emptiness_of : List Row → Data
emptiness_of rows = boolean (length rows == 0)
