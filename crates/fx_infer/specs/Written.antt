-- Where a formula is written.
use Rattle.std.specs.Prelude.{Bool, true, false}
use Rattle.fx_types.specs.Types.{Shape, tables, no_columns}
use Rattle.fx_core.specs.declared.names.Names.{Names}
use Rattle.fx_typing.specs.Meaning as meaning
use Rattle.fx_infer.specs.declared.elaboration.Place.{Place}
use Rattle.fx_infer.specs.declared.elaboration.Place.TheVariants.{Pure, Acting}
use Rattle.fx_infer.specs.declared.elaboration.Written.{Written}

abbrev pub formula_may_act : Place → Bool
formula_may_act Pure = false
formula_may_act Acting = true

-- it is judged under types that are settled
abbrev pub formula_place : Names → Written → meaning.Place
formula_place n w = record { names = n; screen = w.screen; gallery = w.item; settled = true }

-- a table type without columns, which stands for every table type
abbrev pub is_any_table : Shape → Bool
is_any_table (tables no_columns) = true
is_any_table t = false

abbrev pub is_tables : Shape → Bool
is_tables (tables cs) = true
is_tables t = false
