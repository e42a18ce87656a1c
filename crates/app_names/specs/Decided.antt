-- What is lawful, as tests.
use Rattle.std.specs.Prelude.{ℕ, List, [], ◌∷◌, map, length, Bool, true, false, not, ◌&&◌, nat_eq}
use Rattle.std.specs.Prelude.{nat_lt, bytes_eq, Option, Some, None, slice_get, encode_utf8_all}
use Rattle.std.specs.List.{list_all}
use Rattle.fx_types.specs.declared.types.Ty.{Ty}
use Rattle.fx_types.specs.declared.types.Ty.TheVariants as ty
use Rattle.fx_core.specs.Controls.{has_property}
use Rattle.fx_core.specs.Lawful.{id_name}
use Rattle.fx_types.specs.declared.controls.Control.{Control}
use Rattle.fx_types.specs.declared.controls.Control.TheVariants as control
use Rattle.fx_core.specs.declared.names.ControlName.{ControlName}
use Rattle.fx_core.specs.declared.names.Names.{Names}
use Rattle.fx_core.specs.declared.names.Variable.{Variable}
use Rattle.fx_core.specs.declared.schema.Schema.{Schema}
use Rattle.fx_core.specs.declared.names.FormulaName.{FormulaName}
use Rattle.fx_core.specs.declared.names.FunctionName.{FunctionName}
use Rattle.fx_core.specs.declared.names.Parameter.{Parameter}
use Rattle.fx_core.specs.declared.names.Property.{Property}
use Rattle.fx_core.specs.declared.schema.Column.{Column}
use Rattle.fx_core.specs.declared.schema.TableShape.{TableShape}

-- none of these is equal to it
abbrev pub is_new : {A : Type 0} → (A → A → Bool) → A → List A → Bool
is_new eq x [] = true
is_new eq x (y ∷ ys) = not (eq y x) && is_new eq x ys

-- no two are equal
abbrev pub are_distinct : {A : Type 0} → (A → A → Bool) → List A → Bool
are_distinct eq [] = true
are_distinct eq (x ∷ xs) = is_new eq x xs && are_distinct eq xs

-- none of these is one of those
abbrev pub are_apart : {A : Type 0} → (A → A → Bool) → List A → List A → Bool
are_apart eq [] ys = true
are_apart eq (x ∷ xs) ys = is_new eq x ys && are_apart eq xs ys

abbrev pub column_names : List Column → List (List ℕ)
column_names cs = map (λ (c : Column). c.name) cs

abbrev pub table_names : List TableShape → List (List ℕ)
table_names ts = map (λ (t : TableShape). t.name) ts

abbrev pub function_names : List FunctionName → List (List ℕ)
function_names fs = map (λ (f : FunctionName). f.name) fs

abbrev pub formula_cells : List FormulaName → List ℕ
formula_cells fs = map (λ (f : FormulaName). f.cell) fs

abbrev pub property_cells : List Property → List ℕ
property_cells ps = map (λ (p : Property). p.cell) ps

abbrev pub is_column_type : Ty → Bool
is_column_type ty.Number = true
is_column_type ty.Text = true
is_column_type ty.Boolean = true
is_column_type ty.Date = true
is_column_type t = false

abbrev pub is_lawful_table : TableShape → Bool
is_lawful_table t =
    nat_lt (length t.columns) 64
    && (list_all (λ (c : Column). is_column_type c.ty) t.columns
    && (is_new bytes_eq id_name (column_names t.columns)
    && are_distinct bytes_eq (column_names t.columns)))

abbrev pub is_lawful_schema : Schema → Bool
is_lawful_schema s =
    nat_lt (length s.tables) 33
    && (are_distinct bytes_eq (table_names s.tables) && list_all is_lawful_table s.tables)

abbrev pub is_gallery_kind : Control → Bool
is_gallery_kind control.Gallery = true
is_gallery_kind k = false

abbrev pub is_gallery_control : Option ControlName → Bool
is_gallery_control (Some c) = is_gallery_kind c.kind
is_gallery_control None = false

abbrev pub is_lawful_gallery : List ControlName → Option ℕ → Bool
is_lawful_gallery cs (Some g) = is_gallery_control (slice_get cs g)
is_lawful_gallery cs None = true

abbrev pub is_lawful_control : Names → ControlName → Bool
is_lawful_control n c = nat_lt c.screen (length n.screens) && is_lawful_gallery n.controls c.gallery

abbrev pub has_control_name : List ℕ → Option ControlName → Bool
has_control_name p (Some c) = has_property c.kind (encode_utf8_all p)
has_control_name p None = false

abbrev pub is_lawful_property : Names → Property → Bool
is_lawful_property n p = has_control_name p.name (slice_get n.controls p.control)

abbrev pub is_lawful_screen : Names → Option ℕ → Bool
is_lawful_screen n (Some s) = nat_lt s (length n.screens)
is_lawful_screen n None = true

abbrev pub is_lawful_function : FunctionName → Bool
is_lawful_function f = list_all (λ (p : Parameter). is_column_type p.ty) f.params
    && is_column_type f.result

abbrev pub are_cells_distinct : List ℕ → List ℕ → Bool
are_cells_distinct xs ys = are_distinct nat_eq xs
    && (are_distinct nat_eq ys && are_apart nat_eq xs ys)

abbrev pub is_few : ℕ → Bool
is_few n = nat_lt n 4294967296

abbrev pub are_lawful_functions : List FunctionName → Bool
are_lawful_functions fs = is_few (length fs) && (are_distinct bytes_eq (function_names fs)
    && list_all is_lawful_function fs)

abbrev pub are_few : Names → Bool
are_few n =
    is_few (length n.screens)
    && (is_few (length n.controls) && (is_few (length n.properties)
    && (is_few (length n.formulas) && (is_few (length n.variables)
    && is_few (length n.collections)))))

abbrev pub is_lawful : Names → Bool
is_lawful n =
    is_lawful_schema n.schema
    && (are_few n && (list_all (is_lawful_control n) n.controls
    && (list_all (is_lawful_property n) n.properties
    && (list_all (λ (v : Variable). is_lawful_screen n v.screen) n.variables
    && (are_lawful_functions n.functions && are_cells_distinct (formula_cells n.formulas)
    (property_cells n.properties))))))
