-- A field of a record, a row of a table and a column of a type are smaller than it.
use Rattle.std.proofs.Common.{◌≡◌, ℕ, zero, suc, ◌<◌, List, [], ◌∷◌, length, get_or, arith}
use Rattle.fx_types.specs.Types.{column_list, shape_size, columns_size}
use Rattle.fx_types.specs.TypeView.{shape, columns_view}
use Rattle.fx_types.specs.Values.{Data, field_list, row_list, size_of, fields_size, rows_size}
use Rattle.fx_types.specs.ValueView.{view, fields_view}
use Rattle.fx_types.specs.declared.types.Ty.{Ty}
use Rattle.fx_types.specs.declared.values.Value.{Value}

pub field_is_smaller : (fs : List (List ℕ × Value)) (i : ℕ) (f : List ℕ × Value) → i < length fs → f ≡ get_or fs i f → size_of (view f.1) < fields_size (field_list (fields_view fs))
field_is_smaller [] i f h e = omega arith
field_is_smaller (g ∷ fs) zero f h e = rw e (omega arith)
field_is_smaller (g ∷ fs) (suc i) f h e = omega (arith, field_is_smaller fs i f (omega arith) e)

pub row_is_smaller : (rs : List (List (List ℕ × Data))) (i : ℕ) (r : List (List ℕ × Data)) → i < length rs → r ≡ get_or rs i r → fields_size (field_list r) < rows_size (row_list rs)
row_is_smaller [] i r h e = omega arith
row_is_smaller (g ∷ rs) zero r h e = rw e (omega arith)
row_is_smaller (g ∷ rs) (suc i) r h e = omega (arith, row_is_smaller rs i r (omega arith) e)

pub column_is_smaller : (cs : List (List ℕ × Ty)) (i : ℕ) (c : List ℕ × Ty) → i < length cs → c ≡ get_or cs i c → shape_size (shape c.1) < columns_size (column_list (columns_view cs))
column_is_smaller [] i c h e = omega arith
column_is_smaller (d ∷ cs) zero c h e = rw e (omega arith)
column_is_smaller (d ∷ cs) (suc i) c h e = omega (arith, column_is_smaller cs i c (omega arith) e)
