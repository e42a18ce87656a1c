-- Tables whose query expressions are answered by queries.
use Rattle.std.specs.Prelude.{◌≡◌, ◌+◌, ◌≤◌, ℕ, IfSome, List, Option, Some, length, slice_get}
use Rattle.fx_types.specs.Types.{Shape, tables}
use Rattle.fx_types.specs.Values.{Data}
use Rattle.fx_env.specs.Scopes.{Fixed}
use Rattle.fx_env.specs.Telling.{EnvState}
use Rattle.fx_core.specs.declared.schema.TableShape.{TableShape}
use Rattle.fx_core.specs.declared.sources.Source.{Source}
use Rattle.fx_core.specs.declared.sources.Source.TheVariants as source
use Rattle.fx_core.specs.Lawful.{IsLawfulSchema}
use Rattle.fx_core.specs.SourceTypes.{columns_of}
use Rattle.row_queries.specs.declared.rows.Row.{Row}
use Rattle.row_queries.specs.TableRows.{rows_at, rows_table}

-- each table may be read, at its type
abbrev pub AreRead : (Source → Option Shape) → List TableShape → Type 0
AreRead types shapes = (n : ℕ) (t : TableShape) → slice_get shapes n ≡ Some t
    → types (source.Table n) ≡ Some (tables (columns_of t))

-- the value of each table is that of its rows
abbrev pub AreValuesOf : List TableShape → (Source → Data) → List (List Row) → Type 0
AreValuesOf shapes values rows = (n : ℕ) (t : TableShape) → slice_get shapes n ≡ Some t
    → values (source.Table n) ≡ rows_table t (rows_at rows n)

-- the tables are lawful, each may be read, and where something is told, the values of tables are
-- those of their rows
pub record KeepsTables {B : Type 0} (f : Fixed) (told : Option (EnvState B)) : Type 0 where
  pub lawful : IsLawfulSchema f.schema
  pub read : AreRead f.types f.schema.tables
  pub values : (w : EnvState B) → told ≡ Some w → AreValuesOf f.schema.tables w.values w.tables

-- what is told of rows is what is told of the values of tables
abbrev pub AreTold : List TableShape → Option (Source → Data) → Option (List (List Row)) → Type 0
AreTold shapes told rows = (values : Source → Data) → told ≡ Some values
    → (rs : List (List Row)) × (rows ≡ Some rs) × AreValuesOf shapes values rs

-- reading a source visits no rows, but those of a table once
abbrev pub ReadsAtMost : Source → List (List Row) → ℕ → ℕ → Type 0
ReadsAtMost (source.Table k) rows before now = now ≤ before + length (rows_at rows k)
ReadsAtMost s rows before now = now ≤ before

-- the same where the rows of all tables are told
abbrev pub ReadsTold : Source → Option (List (List Row)) → ℕ → ℕ → Type 0
ReadsTold s told before now = IfSome told (λ rows. ReadsAtMost s rows before now)
