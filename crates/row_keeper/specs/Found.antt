-- The rows of some numbers.
use Rattle.std.specs.Prelude.{ℕ, List, [], ◌∷◌, ◌++◌, Option, None, Some, option_to_list}
use Rattle.fx_types.specs.Values.{Data}
use Rattle.row_queries.specs.declared.rows.Row.{Row}
use Rattle.row_keeper.specs.Slots.{now_at}
use Rattle.row_keeper.specs.declared.row_slots.Slot.{Slot}

-- the row of these cells
abbrev pub row_under : ℕ → Option (List Data) → Option Row
row_under i None = None
row_under i (Some cells) = Some (record { id = i; cells = cells })

-- the rows now of these numbers
abbrev pub rows_of_ids : List (ℕ × Slot) → List ℕ → List Row
rows_of_ids rows [] = []
rows_of_ids rows (i ∷ is) = option_to_list (row_under i (now_at rows i)) ++ rows_of_ids rows is
