-- The first rows of a table.
use Rattle.std.proofs.Common.{◌≡◌, ℕ, ◌*◌, ◌/◌, List, take, Some, pos, refl, sym, ap, ◌∙◌, arith}
use Rattle.fx_types.specs.Values.{number, fault, row_list}
use Rattle.fx_semantics.specs.Around.{Around}
use Rattle.fx_semantics.specs.Fresh.{IsValue}
use Rattle.fx_semantics.specs.Rows.{rows_of, table_of}
use Rattle.fx_value.specs.Columns.{Row as Fields}
use Rattle.fx_tables.specs.Ends.{first_rows as taken}
use Rattle.fx_core.specs.Term.{Term}
use Rattle.fx_plan.proofs.Wholes.{rows_back}
use Rattle.fx_plan.specs.Limited.{FirstRowsAre, first_rows_of}
use Rattle.fx_plan.specs.Settings.{setting_around}

whole_count : (n : ℕ) → (n * 10000) / 10000 ≡ n
whole_count n = omega arith

pub first_of_table : (a : Around) (n : ℕ) (t : Term) (rows : List Fields) → IsValue a t (table_of rows) → IsValue a (first_rows_of n t) (table_of (take n rows))
first_of_table a n t rows h =
    let count = number (pos (n * 10000)) in
    let is : table_of (take n rows) ≡ taken (rows_of (row_list rows)) (Some count) =
    ap (λ m. table_of (take m rows)) (sym (whole_count n)) ∙ ap (λ rs. taken rs (Some count)) (sym (rows_back rows)) in
    (table_of rows, h, (count, refl, is))

pub first_rows_are : FirstRowsAre
first_rows_are s n t = (λ rows h. first_of_table (setting_around s) n t rows h, λ k cs h. (fault k cs, h, refl))
