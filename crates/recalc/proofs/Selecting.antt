-- The chosen row of a table.
use Rattle.std.proofs.Common.{◌≡◌, ℕ, List, Option, ap, ◌∙◌}
use Rattle.app_semantics.specs.Chosen.{chosen_of, chosen_row, row_or_blank}
use Rattle.fx_types.specs.Values.{Data, row_list, tab}
use Rattle.fx_semantics.proofs.RowsBack.{rows_back}

-- a row of a table
abbrev Row : Type 0
Row = List (List ℕ × Data)

pub selected_is : (c : Option (ℕ × Option ℕ)) (rows : List Row) (o : Option Row) (v : Data) → v ≡ row_or_blank o → o ≡ chosen_row c rows → v ≡ chosen_of c (tab (row_list rows))
selected_is c rows o v e f = e ∙ ap row_or_blank (f ∙ ap (chosen_row c) (rows_back rows))
