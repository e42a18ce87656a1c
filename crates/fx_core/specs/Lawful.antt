-- Which schemas and names are lawful.
use Rattle.std.specs.Prelude.{◌≡◌, ◌≢◌, true, ℕ, ◌<◌, ◌≤◌, ◌^◌, ◌++◌, List, [], ◌∷◌, map, length}
use Rattle.std.specs.Prelude.{All, codes, encode_utf8_all, Option, Some, None, slice_get}
use Rattle.fx_types.specs.TypeView.{shape}
use Rattle.fx_types.specs.Types.{Shape, numbers, texts, booleans, dates}
use Rattle.fx_types.specs.declared.types.Ty.{Ty}
use Rattle.fx_types.specs.declared.types.Ty.TheVariants as ty
use Rattle.fx_types.specs.declared.controls.Control.TheVariants as control
use Rattle.fx_core.specs.declared.names.ControlName.{ControlName}
use Rattle.fx_core.specs.declared.names.Property.{Property}
use Rattle.fx_core.specs.declared.names.FormulaName.{FormulaName}
use Rattle.fx_core.specs.declared.names.FunctionName.{FunctionName}
use Rattle.fx_core.specs.declared.names.Parameter.{Parameter}
use Rattle.fx_core.specs.declared.names.Variable.{Variable}
use Rattle.fx_core.specs.declared.names.Names.{Names}
use Rattle.fx_core.specs.declared.schema.Column.{Column}
use Rattle.fx_core.specs.declared.schema.TableShape.{TableShape}
use Rattle.fx_core.specs.declared.schema.Schema.{Schema}
use Rattle.fx_core.specs.Controls.{has_property}

-- each of these differs from all later ones
abbrev pub DiffersFromAll : {A : Type 0} → A → List A → Type 0
DiffersFromAll x [] = Unit {0}
DiffersFromAll x (y ∷ ys) = (x ≢ y) × DiffersFromAll x ys

abbrev pub AreDistinct : {A : Type 0} → List A → Type 0
AreDistinct [] = Unit {0}
AreDistinct (x ∷ xs) = DiffersFromAll x xs × AreDistinct xs

-- a type that a column may have
abbrev pub IsColumnType : Ty → Type 0
IsColumnType ty.Number = Unit {0}
IsColumnType ty.Text = Unit {0}
IsColumnType ty.Boolean = Unit {0}
IsColumnType ty.Date = Unit {0}
IsColumnType t = ⊥

-- the name of the column that numbers the rows
abbrev pub id_name : List ℕ
id_name = codes "ID"

-- at most 63 columns beside ID, of such types, and no name twice, ID among them
abbrev pub IsLawfulTable : TableShape → Type 0
IsLawfulTable t =
    (length t.columns ≤ 63)
    × All (λ (c : Column). IsColumnType c.ty) t.columns
    × AreDistinct (id_name ∷ map (λ (c : Column). c.name) t.columns)

-- at most 32 tables, no name twice, each of them lawful
abbrev pub IsLawfulSchema : Schema → Type 0
IsLawfulSchema s =
    (length s.tables ≤ 32)
    × AreDistinct (map (λ (t : TableShape). t.name) s.tables)
    × All IsLawfulTable s.tables

-- the control at this place is a gallery
abbrev pub IsGallery : Option ControlName → Type 0
IsGallery (Some c) = c.kind ≡ control.Gallery
IsGallery None = ⊥

abbrev pub IsLawfulGallery : List ControlName → Option ℕ → Type 0
IsLawfulGallery cs (Some g) = IsGallery (slice_get cs g)
IsLawfulGallery cs None = Unit {0}

abbrev pub IsLawfulControl : Names → ControlName → Type 0
IsLawfulControl n c = (c.screen < length n.screens) × IsLawfulGallery n.controls c.gallery

-- the control at this place has the property
abbrev pub Has : List ℕ → Option ControlName → Type 0
Has p (Some c) = has_property c.kind (encode_utf8_all p) ≡ true
Has p None = ⊥

abbrev pub IsLawfulProperty : Names → Property → Type 0
IsLawfulProperty n p = Has p.name (slice_get n.controls p.control)

-- a function of the app's own takes and answers values of types that a column may have
abbrev pub IsLawfulFunction : FunctionName → Type 0
IsLawfulFunction f = All (λ (p : Parameter). IsColumnType p.ty) f.params × IsColumnType f.result

abbrev pub IsLawfulScreen : Names → Option ℕ → Type 0
IsLawfulScreen n (Some s) = s < length n.screens
IsLawfulScreen n None = Unit {0}

-- the schema is lawful, there are fewer things than numbers, each number of a screen or a control
-- is a place, each gallery is one, each property is one of its control's kind, no cell is numbered
-- twice, and no two functions have one name
pub record IsLawful (n : Names) : Type 0 where
  pub schema : IsLawfulSchema n.schema
  pub screens : length n.screens < 2 ^ 32
  pub controls : (length n.controls < 2 ^ 32) × All (IsLawfulControl n) n.controls
  pub properties : (length n.properties < 2 ^ 32) × All (IsLawfulProperty n) n.properties
  pub formulas : length n.formulas < 2 ^ 32
  pub functions : (length n.functions < 2 ^ 32)
      × AreDistinct (map (λ (f : FunctionName). f.name) n.functions)
      × All IsLawfulFunction n.functions
  pub variables : (length n.variables < 2 ^ 32)
      × All (λ (v : Variable). IsLawfulScreen n v.screen) n.variables
  pub collections : length n.collections < 2 ^ 32
  pub cells : AreDistinct (map (λ (f : FormulaName). f.cell) n.formulas
      ++ map (λ (p : Property). p.cell) n.properties)
