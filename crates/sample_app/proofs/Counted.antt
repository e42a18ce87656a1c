-- How a keeper counts all rows of a table.
use Rattle.std.proofs.Common.{◌≡◌, ℕ, zero, Bool, true, cond, List, [], ◌∷◌, filter, length, refl, ap, ap₂, sym, ◌∙◌, subst}
use Rattle.std.proofs.lemmas.List.Sorted.{length_permutation}
use Rattle.fx_value.specs.Keys.{key_bytes}
use Rattle.row_queries.specs.Queries.{IsCounted, lies, outcome_on}
use Rattle.row_queries.specs.RowTests.{is_met}
use Rattle.row_queries.specs.Ranges.{in_ranges}
use Rattle.row_queries.specs.TableRows.{rows_at, value_at, values_of}
use Rattle.row_queries.specs.declared.rows.Row.{Row}
use Rattle.row_keeper.specs.Changes.{CountsQuery}
use Rattle.row_keeper.specs.Tables.{TableState, Tables, rows_of_tables, state_at}
use Rattle.sample_app.specs.Counts.{HasRowCount, every_row}

-- nothing is below no bytes
every_key : (k : List ℕ) → in_ranges every_row.ranges k ≡ true
every_key [] = refl
every_key (x ∷ xs) = refl

all_pass : (p : Row → Bool) → ((r : Row) → p r ≡ true) → (rows : List Row) → filter p rows ≡ rows
all_pass p h [] = refl
all_pass p h (r ∷ rows) = ap₂ (λ t l. cond t (r ∷ l) l) (h r) (all_pass p h rows)

first_rows : (ss : List TableState) → rows_at (rows_of_tables ss) 0 ≡ (state_at ss 0).rows
first_rows [] = refl
first_rows (s ∷ ss) = refl

-- what is counted of rows is all of them
every_one : (rows : List Row) (n : ℕ) → IsCounted every_row rows n → n ≡ length rows
every_one rows n h =
    let asked : List Row = h.0 in
    let met : length (filter (λ r. is_met (outcome_on every_row r)) asked) ≡ length asked = ap length (all_pass (λ r. is_met (outcome_on every_row r)) (λ r. refl) asked) in
    let lie : filter (lies every_row) rows ≡ rows = all_pass (lies every_row) (λ r. every_key (key_bytes (value_at (values_of r) 0))) rows in
    h.2 ∙ met ∙ length_permutation (filter (lies every_row) rows) asked h.1.rearranged ∙ ap length lie

-- what a keeper counts of the first table
pub counts_rows : (n : ℕ) (a b : Tables) → CountsQuery every_row n a b → HasRowCount n a b
counts_rows n a b h = (every_one (rows_at (rows_of_tables a.states) 0) n h.0 ∙ ap length (first_rows a.states), h.1)
