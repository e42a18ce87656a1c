-- Tests of sameness.
use Rattle.std.specs.Prelude.{◌≡◌, ◌≢◌, Bool, true, false}
use Rattle.std.specs.List.{AllByRecursion}
use Rattle.fx_core.specs.Lawful.{IsColumnType}
use Rattle.fx_core.specs.declared.schema.Column.{Column}
use Rattle.fx_core.specs.declared.schema.TableShape.{TableShape}

-- an answer tells whether two are the same
abbrev pub IsSameAnswer : {A : Type 0} → Bool → A → A → Type 0
IsSameAnswer true a b = a ≡ b
IsSameAnswer false a b = a ≢ b

-- columns have types that columns may have
abbrev pub HasColumnTypes : TableShape → Type 0
HasColumnTypes t = AllByRecursion (λ (c : Column). IsColumnType c.ty) t.columns
