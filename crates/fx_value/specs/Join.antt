-- The join of two types.
use Rattle.std.specs.Prelude.{ℕ, List, Option, Some, None, option_map, option_and_then}
use Rattle.std.specs.Ordering.{nat_cmp, match_ordering}
use Rattle.std.specs.Cmp.Lexicographic.{slice_cmp}
use Rattle.fx_types.specs.Types.{Shape, blanks, numbers, texts, booleans, dates, records, tables}
use Rattle.fx_types.specs.Types.{ColumnList, no_columns, column}

-- the columns with one more: of a column that is there, with its type joined
abbrev pub with_column : List ℕ → Shape → (Shape → Option Shape) → ColumnList → Option ColumnList
with_column m u joined no_columns = Some (column m u no_columns)
with_column m u joined (column n t cs) =
    match_ordering (slice_cmp nat_cmp m n) (Some (column m u (column n t cs)))
    (option_map (λ s. column n s cs) (joined t))
    (option_map (column n t) (with_column m u joined cs))

-- Blank joins with all, a scalar with its own type, and records and tables by the union of their
-- columns, with common columns joined.
abbrev mutual
  pub join_of : Shape → Shape → Option Shape
  join_of t blanks = Some t
  join_of blanks t = Some t
  join_of numbers numbers = Some numbers
  join_of texts texts = Some texts
  join_of booleans booleans = Some booleans
  join_of dates dates = Some dates
  join_of (records cs) (records ds) = option_map records (union cs ds)
  join_of (tables cs) (tables ds) = option_map tables (union cs ds)
  join_of _ _ = None

  pub union : ColumnList → ColumnList → Option ColumnList
  union cs no_columns = Some cs
  union cs (column m u ds) = option_and_then (with_column m u (λ t. join_of t u)) (union cs ds)
