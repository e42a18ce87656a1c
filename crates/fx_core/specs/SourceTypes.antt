-- The types of what formulas read.
use Rattle.std.specs.Prelude.{ℕ, List, [], ◌∷◌, Option, Some, None, nat_eq, option_map}
use Rattle.std.specs.Prelude.{option_and_then, slice_get, encode_utf8_all, if◌then◌else◌}
use Rattle.std.specs.Ordering.{nat_cmp, match_ordering}
use Rattle.std.specs.Cmp.Lexicographic.{slice_cmp}
use Rattle.fx_types.specs.TypeView.{shape}
use Rattle.fx_types.specs.Types.{Shape, numbers, dates, records, tables, ColumnList, no_columns}
use Rattle.fx_types.specs.Types.{column}
use Rattle.fx_core.specs.declared.sources.Source.{Source}
use Rattle.fx_core.specs.declared.sources.Source.TheVariants as source
use Rattle.fx_types.specs.declared.controls.Control.{Control}
use Rattle.fx_types.specs.declared.controls.Control.TheVariants as control
use Rattle.fx_core.specs.declared.names.ControlName.{ControlName}
use Rattle.fx_core.specs.declared.names.Property.{Property}
use Rattle.fx_core.specs.declared.names.FormulaName.{FormulaName}
use Rattle.fx_core.specs.declared.names.Variable.{Variable}
use Rattle.fx_core.specs.declared.names.Collection.{Collection}
use Rattle.fx_core.specs.declared.names.Names.{Names}
use Rattle.fx_core.specs.declared.schema.Column.{Column}
use Rattle.fx_core.specs.declared.schema.TableShape.{TableShape}
use Rattle.fx_core.specs.declared.schema.Schema.{Schema}
use Rattle.fx_core.specs.Controls.{property_type, is_items, input_type}
use Rattle.fx_core.specs.Lawful.{id_name}

-- a column at its place among rising ones
abbrev pub put_column : List ℕ → Shape → ColumnList → ColumnList
put_column m u no_columns = column m u no_columns
put_column m u (column n t cs) =
    match_ordering (slice_cmp nat_cmp m n) (column m u (column n t cs)) (column n u cs)
    (column n t (put_column m u cs))

abbrev pub put_columns : List Column → ColumnList → ColumnList
put_columns [] cs = cs
put_columns (c ∷ more) cs = put_columns more (put_column c.name (shape c.ty) cs)

-- the columns of a table, ID among them, by rising names
abbrev pub columns_of : TableShape → ColumnList
columns_of t = put_columns t.columns (column id_name numbers no_columns)

-- the type of a table of the schema
abbrev pub table_type : Schema → ℕ → Option Shape
table_type s k = option_map (λ (t : TableShape). tables (columns_of t)) (slice_get s.tables k)

-- the columns that the items of a gallery have: those of its rows, and none where they are no table
abbrev pub item_columns : Shape → ColumnList
item_columns (tables cs) = cs
item_columns t = no_columns

abbrev pub item_type : ControlName → Shape
item_type c = records (item_columns (shape c.items))

-- the type of a control's pure property. Those of `Items` are rows of these columns, whatever its
-- formula's type is.
abbrev pub property_of : List ℕ → ControlName → Option Shape
property_of p c =
    if is_items c.kind (encode_utf8_all p) then Some (tables (item_columns (shape c.items))) else
    property_type c.kind (encode_utf8_all p)

-- the type of a cell that may be read: a named formula, or a pure property
abbrev pub property_cell : List ControlName → ℕ → List Property → Option Shape
property_cell cs k [] = None
property_cell cs k (p ∷ ps) =
    if nat_eq p.cell k then option_and_then (property_of p.name) (slice_get cs p.control) else
    property_cell cs k ps

abbrev pub formula_cell : Names → ℕ → List FormulaName → Option Shape
formula_cell n k [] = property_cell n.controls k n.properties
formula_cell n k (f ∷ fs) = if nat_eq f.cell k then Some (shape f.ty) else formula_cell n k fs

-- a variable without a screen is global, the others are context variables
abbrev pub if_global : Option ℕ → Shape → Option Shape
if_global None t = Some t
if_global (Some s) t = None

abbrev pub if_context : Option ℕ → Shape → Option Shape
if_context None t = None
if_context (Some s) t = Some t

-- what is chosen of a gallery is one of its items
abbrev pub chosen_shape : Control → Shape → Option Shape
chosen_shape control.Gallery t = Some t
chosen_shape c t = None

-- the type of each source
abbrev pub sources : Names → Source → Option Shape
sources n (source.Cell k) = formula_cell n k n.formulas
sources n (source.Global k) = option_and_then (λ (v : Variable). if_global v.screen (shape v.ty))
    (slice_get n.variables k)
sources n (source.Context k) = option_and_then (λ (v : Variable). if_context v.screen (shape v.ty))
    (slice_get n.variables k)
sources n (source.Gathered k) = option_map (λ (c : Collection). shape c.ty)
    (slice_get n.collections k)
sources n (source.Input k) = option_and_then (λ (c : ControlName). input_type c.kind)
    (slice_get n.controls k)
sources n (source.Chosen k) = option_and_then
    (λ (c : ControlName). chosen_shape c.kind (item_type c)) (slice_get n.controls k)
sources n (source.Table k) = table_type n.schema k
sources n source.Today = Some dates
