-- What an app file of the form holds, as it is written. What is missing has its default; of a file
-- that isn't of the form nothing of this counts.
use Rattle.std.specs.Prelude.{ℕ, List, [], ◌∷◌, ◌++◌, Bool, false, Option, option_and_then}
use Rattle.std.specs.Prelude.{option_map, unwrap_or, codes}
use Rattle.std.specs.List.{filter_map}
use Rattle.serde_json.specs.Data.{Data}
use Rattle.serde_json.specs.Find.{as_bool, as_str, get}
use Rattle.fx_types.specs.Words.{scalars_of}
use Rattle.fx_types.specs.declared.controls.Control.{Control}
use Rattle.fx_types.specs.declared.controls.Control.TheVariants as control
use Rattle.fx_types.specs.declared.types.Ty.{Ty}
use Rattle.fx_types.specs.declared.types.Ty.TheVariants as ty
use Rattle.fx_core.specs.declared.schema.Column.{Column}
use Rattle.fx_core.specs.declared.schema.TableShape.{TableShape}
use Rattle.app_file.specs.declared.file.AppFile.{AppFile}
use Rattle.app_file.specs.declared.file.ControlShape.{ControlShape}
use Rattle.app_file.specs.declared.file.PropertyText.{PropertyText}
use Rattle.app_file.specs.declared.file.ScreenShape.{ScreenShape}
use Rattle.app_file.specs.Forms.{elements}
use Rattle.app_file.specs.FormOfApp.{column_type_of, gallery_before, control_kind, property_names}
use Rattle.app_file.specs.FormOfApp.{row_limit_of}

-- what a member holds, or this where there is none
abbrev pub member_at : {A : Type 0} → (Data → A) → List ℕ → A → Data → A
member_at f key default d = unwrap_or (option_map f (get key d)) default

abbrev pub words : Data → List ℕ
words d = scalars_of (unwrap_or (as_str d) [])

abbrev pub truth : Data → Bool
truth d = unwrap_or (as_bool d) false

abbrev pub limit : Data → ℕ
limit d = unwrap_or (row_limit_of d) 0

abbrev pub column_ty : Data → Ty
column_ty d = unwrap_or (column_type_of d) ty.Blank

abbrev pub kind : Data → Control
kind d = unwrap_or (control_kind d) control.Label

-- what the elements of a list hold, each behind those before it
abbrev pub all_behind : {A : Type 0} → (List Data → Data → A) → List Data → List Data → List A
all_behind f before [] = []
all_behind f before (d ∷ ds) = f before d ∷ all_behind f (before ++ d ∷ []) ds

abbrev pub all_elements : {A : Type 0} → (List Data → Data → A) → Data → List A
all_elements f d = all_behind f [] (unwrap_or (elements d) [])

abbrev pub column : List Data → Data → Column
column before d = record {
  name = member_at words (codes "name") [] d;
  ty = member_at column_ty (codes "type") ty.Blank d;
  required = member_at truth (codes "required") false d;
  unique = member_at truth (codes "unique") false d;
  indexed = member_at truth (codes "indexed") false d;
}

abbrev pub table_shape : List Data → Data → TableShape
table_shape before d = record {
  name = member_at words (codes "name") [] d;
  columns = member_at (all_elements column) (codes "columns") [] d;
}

-- the properties of these names that are written, in this order, empty texts among them
abbrev pub property : Data → List ℕ → Option PropertyText
property d key = option_map (λ x. record { name = scalars_of key; text = words x }) (get key d)

abbrev pub properties : Control → Data → List PropertyText
properties k d = filter_map (property d) (property_names k)

abbrev pub kind_at : Data → Control
kind_at d = member_at kind (codes "kind") control.Label d

-- a control: the gallery that it stands in is told by its place among those before it on its screen
abbrev pub control_shape : List Data → Data → ControlShape
control_shape before d = record {
  name = member_at words (codes "name") [] d;
  kind = kind_at d;
  gallery = option_and_then (gallery_before before (kind_at d)) (get (codes "in") d);
  properties = member_at (properties (kind_at d)) (codes "properties") [] d;
}

abbrev pub screen : List Data → Data → ScreenShape
screen before d = record {
  name = member_at words (codes "name") [] d;
  on_visible = member_at words (codes "onVisible") [] d;
  controls = member_at (all_elements control_shape) (codes "controls") [] d;
}

-- ALL THAT THE FILE HOLDS
abbrev pub app_of : Data → AppFile
app_of d = record {
  schema = record { tables = member_at (all_elements table_shape) (codes "tables") [] d };
  row_limit = member_at limit (codes "rowLimit") 500 d;
  formulas = member_at words (codes "formulas") [] d;
  on_start = member_at words (codes "onStart") [] d;
  screens = member_at (all_elements screen) (codes "screens") [] d;
}
