-- A code of the types, by which proofs tell them apart.
use Rattle.std.specs.Prelude.{◌≡◌, refl, ℕ, zero, suc, List}
use Rattle.std.proofs.Common.{ap}
use Rattle.std.specs.Coded.{Coded, code_by, coded_list, coded×, coded_ℕ}
use base.Stored.{Gv, gnil, gnum, gcons}
use denote.Struct.Codes.{itself}
use Rattle.fx_types.specs.Types.{Shape, blanks, numbers, texts, booleans, dates, records, tables}
use Rattle.fx_types.specs.Types.{ColumnList, no_columns, column}
use Rattle.fx_types.specs.ValueCode.{of_text, to_text, text_back}

abbrev mutual
  pub of_shape : Shape → Gv
  of_shape blanks = gnum 0
  of_shape numbers = gnum 1
  of_shape texts = gnum 2
  of_shape booleans = gnum 3
  of_shape dates = gnum 4
  of_shape (records cs) = gcons (gnum 0) (of_columns cs)
  of_shape (tables cs) = gcons (gnum 1) (of_columns cs)

  pub of_columns : ColumnList → Gv
  of_columns no_columns = gnil
  of_columns (column n t cs) = gcons (gcons (of_text n) (of_shape t)) (of_columns cs)

abbrev mutual
  pub to_shape : Gv → Shape
  to_shape (gnum (suc zero)) = numbers
  to_shape (gnum (suc (suc zero))) = texts
  to_shape (gnum (suc (suc (suc zero)))) = booleans
  to_shape (gnum (suc (suc (suc (suc n))))) = dates
  to_shape (gcons (gnum zero) g) = records (to_columns g)
  to_shape (gcons (gnum (suc n)) g) = tables (to_columns g)
  to_shape _ = blanks

  pub to_columns : Gv → ColumnList
  to_columns (gcons (gcons n t) cs) = column (to_text n) (to_shape t) (to_columns cs)
  to_columns _ = no_columns

mutual
  pub shape_back : (t : Shape) → to_shape (of_shape t) ≡ t
  shape_back blanks = refl
  shape_back numbers = refl
  shape_back texts = refl
  shape_back booleans = refl
  shape_back dates = refl
  shape_back (records cs) = ap records (columns_back cs)
  shape_back (tables cs) = ap tables (columns_back cs)

  pub columns_back : (cs : ColumnList) → to_columns (of_columns cs) ≡ cs
  columns_back no_columns = refl
  columns_back (column n t cs) = λ i. column (text_back n i) (shape_back t i) (columns_back cs i)

abbrev pub shape_code : Coded Shape
shape_code = code_by Gv itself of_shape to_shape shape_back

abbrev pub columns_code : Coded (List (List ℕ × Shape))
columns_code = coded_list (coded× (coded_list coded_ℕ) shape_code)
