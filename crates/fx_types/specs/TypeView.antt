-- What a type is seen as.
use Rattle.std.specs.Prelude.{ℕ, List, map}
use Rattle.fx_types.specs.Types.{Shape, blanks, numbers, texts, booleans, dates, records, tables}
use Rattle.fx_types.specs.Types.{column_list}
use Rattle.fx_types.specs.declared.types.Ty.{Ty}
use Rattle.fx_types.specs.declared.types.Ty.TheVariants.{Blank, Number, Text, Boolean, Date, Rec}
use Rattle.fx_types.specs.declared.types.Ty.TheVariants.{Tab}

abbrev pub shape : Ty → Shape
shape Blank = blanks
shape Number = numbers
shape Text = texts
shape Boolean = booleans
shape Date = dates
shape (Rec cs) = records (column_list cs)
shape (Tab cs) = tables (column_list cs)

abbrev pub columns_view : List (List ℕ × Ty) → List (List ℕ × Shape)
columns_view = map (λ c. (c.0, shape c.1))
