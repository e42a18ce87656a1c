-- What is in a record or a table is smaller than it.
use Rattle.std.specs.Prelude.{ℕ, ◌+◌, ◌≤◌, List, [], ◌∷◌}
use Rattle.std.proofs.Common.{arith}
use Rattle.fx_types.specs.Values.{Data, field_list, row_list, size_of, fields_size, rows_size}
use Rattle.fx_types.specs.ValueView.{view, fields_view}
use Rattle.fx_types.specs.declared.values.Value.{Value}
use Rattle.fx_types.specs.declared.values.Value.TheVariants.{Blank, Number, Text, Boolean, Date}
use Rattle.fx_types.specs.declared.values.Value.TheVariants.{Rec, Tab, Fault}
use Rattle.fx_types.specs.declared.values.Fields.TheDeep.{deep-Value}
use Rattle.fx_types.specs.declared.values.Fields.TheShapes.{weighed-Fields-items-at-2}
use denote.Param.Weighed.{most}

pub deep_le-size_of : (v : Value) → deep-Value v ≤ size_of (view v)
deep_le-size_of Blank = omega arith
deep_le-size_of (Number n) = omega arith
deep_le-size_of (Text w) = omega arith
deep_le-size_of (Boolean b) = omega arith
deep_le-size_of (Date d) = omega arith
deep_le-size_of (Rec fs) = omega arith
deep_le-size_of (Tab rs) = omega arith
deep_le-size_of (Fault f) = omega arith

-- how deep a field is, as the type's size has it
abbrev pub field_depth : List ℕ × Value → ℕ
field_depth f = weighed-Fields-items-at-2.weight Value deep-Value f

pub field_depth-le : (f : List ℕ × Value) → field_depth f ≤ size_of (view f.1)
field_depth-le f = omega (arith, deep_le-size_of f.1)

pub fields_fall : (fs : List (List ℕ × Value))
    → most field_depth fs ≤ fields_size (field_list (fields_view fs))
fields_fall [] = omega arith
fields_fall (f ∷ fs) = omega (arith, field_depth-le f, fields_fall fs)

pub most_le-rows_size : (rs : List (List (List ℕ × Data)))
    → most (λ fs. fields_size (field_list fs) + 1) rs ≤ rows_size (row_list rs)
most_le-rows_size [] = omega arith
most_le-rows_size (fs ∷ rs) = omega (arith, most_le-rows_size rs)
