-- What is in a type is smaller than it.
use Rattle.std.specs.Prelude.{ℕ, ◌≤◌, List, [], ◌∷◌}
use Rattle.std.proofs.Common.{arith}
use Rattle.fx_types.specs.Types.{column_list, shape_size, columns_size}
use Rattle.fx_types.specs.TypeView.{shape, columns_view}
use Rattle.fx_types.specs.declared.types.Ty.{Ty}
use Rattle.fx_types.specs.declared.types.Ty.TheVariants.{Blank, Number, Text, Boolean, Date, Rec}
use Rattle.fx_types.specs.declared.types.Ty.TheVariants.{Tab}
use Rattle.fx_types.specs.declared.types.Columns.TheDeep.{deep-Ty}
use Rattle.fx_types.specs.declared.types.Columns.TheShapes.{weighed-Columns-items-at-2}
use denote.Param.Weighed.{most}

pub deep_le-shape_size : (t : Ty) → deep-Ty t ≤ shape_size (shape t)
deep_le-shape_size Blank = omega arith
deep_le-shape_size Number = omega arith
deep_le-shape_size Text = omega arith
deep_le-shape_size Boolean = omega arith
deep_le-shape_size Date = omega arith
deep_le-shape_size (Rec cs) = omega arith
deep_le-shape_size (Tab cs) = omega arith

-- how deep a column is, as the type's size has it
abbrev pub column_depth : List ℕ × Ty → ℕ
column_depth c = weighed-Columns-items-at-2.weight Ty deep-Ty c

pub column_depth-le : (c : List ℕ × Ty) → column_depth c ≤ shape_size (shape c.1)
column_depth-le c = omega (arith, deep_le-shape_size c.1)

pub columns_fall : (cs : List (List ℕ × Ty)) → most column_depth cs
    ≤ columns_size (column_list (columns_view cs))
columns_fall [] = omega arith
columns_fall (c ∷ cs) = omega (arith, column_depth-le c, columns_fall cs)
