-- What a type that is given to a name is seen as.
use Rattle.std.specs.Prelude.{Option, option_map}
use Rattle.fx_types.specs.TypeView.{shape}
use Rattle.fx_types.specs.Types.{Shape, tables}
use Rattle.fx_typing.specs.Parts.{JudgedPart}
use Rattle.fx_typing.specs.Rounds as rounds
use Rattle.fx_typing.specs.Rounds.{part_type}
use Rattle.fx_core.specs.Term.{Term}
use Rattle.fx_core.specs.ColumnLists.{row_columns}
use Rattle.fx_infer.specs.declared.giving.Given.{Given}
use Rattle.fx_infer.specs.declared.giving.Given.TheVariants.{Global, Screen, Collection}

abbrev pub given_type_view : Given → rounds.GivenType
given_type_view (Global x t) = rounds.to_global x (shape t)
given_type_view (Screen s x t) = rounds.to_screen s x (shape t)
given_type_view (Collection x t) = rounds.to_collection x (shape t)

-- the type of a part that is a value
abbrev pub value_type : JudgedPart → Option Shape
value_type q = option_map (λ (x : Term × Shape). x.1) (part_type q)

-- the type of the rows that a value of a type is collected as
abbrev pub rows_type : Shape → Shape
rows_type (tables cs) = tables cs
rows_type t = tables (row_columns t)
