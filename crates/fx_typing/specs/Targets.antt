-- What acting calls change, by its name among the global ones.
use Rattle.std.specs.Prelude.{◌≡◌, ℕ, Bool, true, false, List, ◌&&◌, Option, Some, None, option_map}
use Rattle.std.specs.Prelude.{bytes_eq}
use Rattle.fx_types.specs.TypeView.{shape}
use Rattle.fx_types.specs.Types.{Shape, blanks, tables, ColumnList, no_columns}
use Rattle.fx_core.specs.declared.deeds.Target.{Target}
use Rattle.fx_core.specs.declared.deeds.Target.TheVariants as rows
use Rattle.fx_core.specs.declared.names.Collection.{Collection}
use Rattle.fx_core.specs.declared.names.ControlName.{ControlName}
use Rattle.fx_core.specs.declared.names.Names.{Names}
use Rattle.fx_core.specs.declared.names.Variable.{Variable}
use Rattle.fx_core.specs.declared.schema.TableShape.{TableShape}
use Rattle.fx_core.specs.SourceTypes.{columns_of, item_columns}
use Rattle.fx_typing.specs.Meaning.{first_match, or_else, is_on, is_global}

-- a global variable, and one of a screen
abbrev pub global_variable : Names → List ℕ → Option (ℕ × Variable)
global_variable n x = first_match (λ (v : Variable). is_global v.screen && bytes_eq v.name x) 0
    n.variables

abbrev pub screen_variable : Names → Option ℕ → List ℕ → Option (ℕ × Variable)
screen_variable n s x = first_match (λ (v : Variable). is_on s v.screen && bytes_eq v.name x) 0
    n.variables

abbrev pub collection_named : Names → List ℕ → Option (ℕ × Collection)
collection_named n x = first_match (λ (c : Collection). bytes_eq c.name x) 0 n.collections

abbrev pub table_named : Names → List ℕ → Option (ℕ × TableShape)
table_named n x = first_match (λ (t : TableShape). bytes_eq t.name x) 0 n.schema.tables

abbrev pub screen_named : Names → List ℕ → Option (ℕ × List ℕ)
screen_named n x = first_match (λ (s : List ℕ). bytes_eq s x) 0 n.screens

abbrev pub control_named : Names → List ℕ → Option (ℕ × ControlName)
control_named n x = first_match (λ (c : ControlName). bytes_eq c.name x) 0 n.controls

-- rows that change, with their type: a table's or a collection's
abbrev pub rows_named : Names → List ℕ → Option (Target × Shape)
rows_named n x =
    or_else (option_map (λ (t : ℕ × TableShape). (rows.Table t.0, tables (columns_of t.1)))
    (table_named n x))
    (option_map (λ (c : ℕ × Collection). (rows.Gathered c.0, shape c.1.ty)) (collection_named n x))

-- rows of this name with their columns: those of a table, and none where a collection is of type
-- Blank, which has no rows
pub data AreRows (o : Option (Target × Shape)) : Target → ColumnList → Bool → Type 0 where
  some_table : {t : Target} {cs : ColumnList} → o ≡ Some (t, tables cs) → AreRows o t cs false
  no_table : {t : Target} → o ≡ Some (t, blanks) → AreRows o t no_columns true

abbrev pub columns_or_none : Option (Target × Shape) → ColumnList
columns_or_none (Some r) = item_columns r.1
columns_or_none None = no_columns

abbrev pub target_columns : Names → List ℕ → ColumnList
target_columns n x = columns_or_none (rows_named n x)
