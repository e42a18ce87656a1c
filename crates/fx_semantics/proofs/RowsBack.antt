-- The rows of the table of some rows.
use Rattle.std.proofs.Common.{◌≡◌, List, [], ◌∷◌, refl, sym, ap}
use Rattle.fx_types.specs.Values.{row_list, field_list}
use Rattle.fx_semantics.specs.Rows.{fields_of, rows_of}
use Rattle.fx_value.specs.Columns.{Row}

-- ---- the rows of a table
fields_back : (fs : Row) → fields_of (field_list fs) ≡ fs
fields_back [] = refl
fields_back (f ∷ fs) = ap (λ z. f ∷ z) (fields_back fs)

pub rows_back : (rs : List Row) → rs ≡ rows_of (row_list rs)
rows_back [] = refl
rows_back (r ∷ rs) = λ i. sym (fields_back r) i ∷ rows_back rs i
