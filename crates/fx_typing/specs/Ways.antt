-- How a type comes to another.
use Rattle.std.specs.Prelude.{Bool, true, false, ◌&&◌, Option, Some, None, bytes_eq, if◌then◌else◌}
use Rattle.fx_types.specs.Types.{Shape, blanks, numbers, texts, booleans, dates, records, tables}
use Rattle.fx_types.specs.Types.{ColumnList, no_columns, column}
use Rattle.fx_value.specs.Join.{join_of}

-- whether two types are one
abbrev mutual
  pub same_shape : Shape → Shape → Bool
  same_shape blanks blanks = true
  same_shape numbers numbers = true
  same_shape texts texts = true
  same_shape booleans booleans = true
  same_shape dates dates = true
  same_shape (records cs) (records ds) = same_columns cs ds
  same_shape (tables cs) (tables ds) = same_columns cs ds
  same_shape _ _ = false

  pub same_columns : ColumnList → ColumnList → Bool
  same_columns no_columns no_columns = true
  same_columns (column n t cs) (column m u ds)
      = bytes_eq n m && (same_shape t u && same_columns cs ds)
  same_columns _ _ = false

-- a value stands as it is, it is coerced, or there is no way
pub data Way : Type 0 where
  same : Way
  changed : Way
  refused : Way

-- a record or a table comes to the join with a wider type, where that is the type
abbrev pub joined_way : Option Shape → Shape → Way
joined_way (Some u) t = if same_shape u t then changed else refused
joined_way None t = refused

abbrev pub widening : Shape → Shape → Way
widening s t = if same_shape s t then same else joined_way (join_of s t) t

-- the table of coercions. All types come to Blank only where branches that act have no common type.
abbrev pub way : Shape → Shape → Way
way blanks blanks = same
way blanks t = changed
way numbers numbers = same
way numbers texts = changed
way numbers booleans = changed
way booleans booleans = same
way booleans texts = changed
way booleans numbers = changed
way dates dates = same
way dates texts = changed
way texts texts = same
way texts numbers = changed
way (records cs) (records ds) = widening (records cs) (records ds)
way (tables cs) (tables ds) = widening (tables cs) (tables ds)
way s t = refused

abbrev pub is_open : Way → Bool
is_open refused = false
is_open w = true

-- a type without parts
abbrev pub is_scalar : Shape → Bool
is_scalar (records cs) = false
is_scalar (tables cs) = false
is_scalar t = true

-- whether `=` compares two types: one scalar type, or one of them Blank
abbrev pub is_comparable : Shape → Shape → Bool
is_comparable blanks t = is_scalar t
is_comparable s blanks = is_scalar s
is_comparable s t = is_scalar s && same_shape s t
