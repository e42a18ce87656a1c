-- What the calls on columns make of each row.
use Rattle.std.specs.Prelude.{◌≡◌, ℕ, List, [], ◌∷◌, map, not, bytes_eq, unwrap_or, None}
use Rattle.std.specs.Prelude.{if◌then◌else◌}
use Rattle.std.specs.List.{All, filter, list_any, zip}
use Rattle.std.specs.Cmp.Lexicographic.{slice_cmp}
use Rattle.std.specs.Ordering.{nat_cmp, is_lt}
use Rattle.fx_types.specs.Lookup.{item_named}
use Rattle.fx_types.specs.Values.{Data, blank}

-- a row of a table, a record as its fields by rising names
abbrev pub Row : Type 0
Row = List (List ℕ × Data)

-- no row has a field of this name
abbrev pub LacksColumn : List ℕ → List Row → Type 0
LacksColumn n = All (λ r. item_named n r ≡ None)

-- a record with one more field, in its place among the rising names
abbrev pub with_field : List ℕ → Data → Row → Row
with_field n d [] = (n, d) ∷ []
with_field n d (f ∷ fs) =
    if is_lt (slice_cmp nat_cmp n f.0) then (n, d) ∷ f ∷ fs else f ∷ with_field n d fs

-- a record without its field of this name
abbrev pub fields_without : List ℕ → Row → Row
fields_without n = filter (λ f. not (bytes_eq f.0 n))

-- the fields of a record whose names are among these
abbrev pub fields_only : List (List ℕ) → Row → Row
fields_only ns = filter (λ f. list_any (bytes_eq f.0) ns)

-- a record in which the field n has the name m
abbrev pub field_renamed : List ℕ → List ℕ → Row → Row
field_renamed n m r = with_field m (unwrap_or (item_named n r) blank) (fields_without n r)

-- each row with the value that stands at its place, under this name
abbrev pub rows_with_column : List ℕ → List Row → List Data → List Row
rows_with_column n rows values = map (λ p. with_field n p.1 p.0) (zip rows values)
