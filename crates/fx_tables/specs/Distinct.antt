-- The distinct ones among values.
use Rattle.std.specs.Prelude.{ℕ, List, [], ◌∷◌, map, not, codes}
use Rattle.std.specs.List.{filter}
use Rattle.std.specs.Ordering.{is_eq}
use Rattle.fx_types.specs.Words.{scalars_of}
use Rattle.fx_types.specs.Values.{Data}
use Rattle.fx_value.specs.Order.{order}
use Rattle.fx_value.specs.Columns.{Row}

-- the name of the column that scalars stand in
abbrev pub value_name : List ℕ
value_name = scalars_of (codes "Value")

-- a scalar as a row of its own
abbrev pub value_row : Data → Row
value_row d = (value_name, d) ∷ []

-- each value once, in the order in which they first appear: of equal ones the first stays
abbrev pub distinct_of : List Data → List Data
distinct_of [] = []
distinct_of (d ∷ ds) = d ∷ filter (λ e. not (is_eq (order d e))) (distinct_of ds)
