-- Rows that are grouped, and put out of their groups again.
use Rattle.std.specs.Prelude.{◌≡◌, ℕ, Bool, List, None, flat_map}
use Rattle.std.specs.List.{All, filter, find}
use Rattle.std.specs.List.Sorted.{IsPermutation}
use Rattle.std.specs.Option.{IsSome}
use Rattle.fx_types.specs.Lookup.{item_named}
use Rattle.fx_types.specs.Rising.{AreNamesRising}
use Rattle.fx_tables.specs.Groups.{CanGroup, grouped_or, is_same_key, key_of, ungrouped_or}
use Rattle.fx_tables.specs.TableRows.{rows_in, table_of}
use Rattle.fx_tables.specs.Unions.{is_fault}
use Rattle.fx_value.specs.Columns.{Row}

-- whether a row has the key of another
abbrev pub has_key_of : List (List ℕ) → Row → Row → Bool
has_key_of ns r s = is_same_key (key_of ns r) (key_of ns s)

-- each row is a record with each of these columns
abbrev pub HaveColumns : List (List ℕ) → List Row → Type 0
HaveColumns ns rows = All (λ r. AreNamesRising r × All (λ n. IsSome (item_named n r)) ns) rows

-- the rows are rearranged, and rows of equal keys keep their order
pub record IsRegrouped (ns : List (List ℕ)) (rows back : List Row) : Type 0 where
  pub rearranged : IsPermutation rows back
  pub stable : All (λ r. filter (has_key_of ns r) back ≡ filter (has_key_of ns r) rows) rows

-- Where no key has an error, rows out of their groups are the rows that were grouped, rearranged.
abbrev pub GroupsComeBack : Type 0
GroupsComeBack = (ns : List (List ℕ)) (g : List ℕ) (rows : List Row) → CanGroup ns g rows
    → HaveColumns ns rows → find is_fault (flat_map (key_of ns) rows) ≡ None
    → (back : List Row) × (ungrouped_or g (rows_in (grouped_or ns g rows)) ≡ table_of back)
    × IsRegrouped ns rows back
