-- What holds of the tables of a store at any time.
use Rattle.std.specs.Prelude.{◌≡◌, Bool, false, List, map, Option, Some, None, IfSome}
use Rattle.fx_core.specs.Lawful.{IsLawfulSchema}
use Rattle.fx_core.specs.declared.schema.Column.{Column}
use Rattle.fx_core.specs.declared.schema.Schema.{Schema}
use Rattle.fx_core.specs.declared.schema.TableShape.{TableShape}
use Rattle.row_keeper.specs.TableView.{TableView, states_now, states_then}
use Rattle.row_keeper.specs.Tables.{no_rows, shapes_of}
use Rattle.row_keeper.specs.declared.store.Aside.{Aside}

-- the columns of each table
abbrev pub columns_kept : List TableView → List (List Column)
columns_kept tables = map (λ (t : TableView). t.columns) tables

abbrev pub columns_shaped : List TableShape → List (List Column)
columns_shaped shapes = map (λ (t : TableShape). t.columns) shapes

-- a table of this shape without rows
abbrev pub empty_table : TableShape → TableView
empty_table t = record { columns = t.columns; now = no_rows; then = no_rows }

-- the schema as the transaction began: that which was put aside, or the one that is there
abbrev pub schema_then : Option Schema → Option Aside → Option Schema
schema_then schema None = schema
schema_then schema (Some a) = a.schema

-- and its tables
abbrev pub kept_then : List TableView → Option Aside → List TableView
kept_then tables None = tables
kept_then tables (Some a) = a.tables.items

-- the tables have the columns of the schema, which is a lawful one
pub record IsOfSchema (schema : Option Schema) (tables : List TableView) : Type 0 where
  pub columns : columns_kept tables ≡ columns_shaped (shapes_of schema)
  pub lawful : IfSome schema IsLawfulSchema

-- The tables that are there are those of their schema, and so are those that were put aside. Where
-- no transaction is begun nothing is put aside, and the tables are as they were when the last one
-- ended.
pub record IsKept (schema : Option Schema) (tables : List TableView) (aside : Option Aside)
    (is_begun : Bool) : Type 0 where
  pub columns : columns_kept tables ≡ columns_shaped (shapes_of schema)
  pub lawful : IfSome schema IsLawfulSchema
  pub apart : IfSome aside (λ (a : Aside). IsOfSchema a.schema a.tables.items)
  pub alone : is_begun ≡ false → aside ≡ None
  pub still : is_begun ≡ false → states_then tables ≡ states_now tables
