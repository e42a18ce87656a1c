-- That a schema is lawful is a fact, and so is which schema a keeper is shaped by.
use Rattle.std.specs.Prelude.{◌≡◌, List, [], ◌∷◌}
use Rattle.std.specs.Coded.{Coded-set, codes}
use Rattle.std.proofs.Props.{props}
use Rattle.fx_types.specs.declared.types.Ty.{Ty}
use Rattle.fx_types.specs.declared.types.Ty.TheVariants as ty
use Rattle.fx_core.specs.Lawful.{AreDistinct, DiffersFromAll, IsColumnType, IsLawfulSchema}
use Rattle.fx_core.specs.Lawful.{IsLawfulTable}
use Rattle.fx_core.specs.contracts.schema.Schema.{the_row}
use Rattle.fx_core.specs.declared.schema.Schema.{Schema}
use Rattle.fx_core.specs.declared.schema.TableShape.{TableShape}
use Rattle.row_keeper.specs.Shaped.{Shaped}

pub shaped_prop : (x y : Shaped) → IsProp (x ≡ y)
shaped_prop x y = Coded-set (hlevel (codes, the_row.coded)) x y

pub differs_prop : {A : Type 0} (x : A) (ys : List A) → IsProp (DiffersFromAll x ys)
differs_prop x [] = hlevel props
differs_prop x (y ∷ ys) = hlevel (differs_prop x ys, props)

pub distinct_prop : {A : Type 0} (xs : List A) → IsProp (AreDistinct xs)
distinct_prop [] = hlevel props
distinct_prop (x ∷ xs) = hlevel (differs_prop x xs, distinct_prop xs, props)

pub column_type_prop : (t : Ty) → IsProp (IsColumnType t)
column_type_prop ty.Blank = hlevel props
column_type_prop ty.Number = hlevel props
column_type_prop ty.Text = hlevel props
column_type_prop ty.Boolean = hlevel props
column_type_prop ty.Date = hlevel props
column_type_prop (ty.Rec cs) = hlevel props
column_type_prop (ty.Tab cs) = hlevel props

pub table_prop : (t : TableShape) → IsProp (IsLawfulTable t)
table_prop t = hlevel (column_type_prop, distinct_prop, props)

pub schema_prop : (s : Schema) → IsProp (IsLawfulSchema s)
schema_prop s = hlevel (table_prop, distinct_prop, props)
