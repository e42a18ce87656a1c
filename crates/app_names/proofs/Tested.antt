-- The tests decide what is lawful.
use Rattle.std.proofs.Common.{◌≡◌, ◌<◌, ◌≤◌, ◌+◌, ◌^◌, ◌++◌, ◌∷◌, arith, ℕ, List, length, Bool, ◌&&◌, nat_eq, nat_lt, bytes_eq, refl, Option, Some, None, slice_get}
use Rattle.std.specs.Bool.{Decides}
use Rattle.std.specs.List.{All, list_all}
use Rattle.std.proofs.lemmas.Bool.Decides.{Decides-and, Decides-ltb, Decides-by_and, Decides-eqb}
use Rattle.std.proofs.lemmas.Slice.Eq.{bytes_eq-Decides}
use Rattle.fx_types.specs.declared.types.Ty.{Ty}
use Rattle.fx_types.specs.declared.types.Ty.TheVariants as ty
use Rattle.fx_core.specs.Lawful.{AreDistinct, id_name, IsColumnType, IsLawfulTable, IsLawfulSchema, IsGallery, IsLawfulGallery, IsLawfulControl, IsLawfulFunction, Has, IsLawfulProperty, IsLawfulScreen, IsLawful}
use Rattle.fx_types.specs.declared.controls.Control.{Control}
use Rattle.fx_types.specs.declared.controls.Control.TheVariants as control
use Rattle.fx_core.specs.declared.names.ControlName.{ControlName}
use Rattle.fx_core.specs.declared.names.FunctionName.{FunctionName}
use Rattle.fx_core.specs.declared.names.Names.{Names}
use Rattle.fx_core.specs.declared.names.Parameter.{Parameter}
use Rattle.fx_core.specs.declared.names.Property.{Property}
use Rattle.fx_core.specs.declared.names.Variable.{Variable}
use Rattle.fx_core.specs.declared.schema.Column.{Column}
use Rattle.fx_core.specs.declared.schema.Schema.{Schema}
use Rattle.fx_core.specs.declared.schema.TableShape.{TableShape}
use Rattle.app_names.specs.Decided as decided
use Rattle.app_names.proofs.Differing.{decides_new, decides_distinct, decides_joined}

all_of : {X : Type 0} (p : X → Bool) (P : X → Type 0) → ((x : X) → Decides (p x) (P x)) → (xs : List X) → Decides (list_all p xs) (All P xs)
all_of p P each xs = Decides-by_and p P (list_all p) each refl (λ _ _. refl) xs

column_type : (t : Ty) → Decides (decided.is_column_type t) (IsColumnType t)
column_type ty.Number = (λ _. tt, λ _. refl)
column_type ty.Text = (λ _. tt, λ _. refl)
column_type ty.Boolean = (λ _. tt, λ _. refl)
column_type ty.Date = (λ _. tt, λ _. refl)
column_type ty.Blank = (λ h. absurd cc, λ h. absurd h)
column_type (ty.Rec cs) = (λ h. absurd cc, λ h. absurd h)
column_type (ty.Tab cs) = (λ h. absurd cc, λ h. absurd h)

column_types : (cs : List Column) → Decides (list_all (λ (c : Column). decided.is_column_type c.ty) cs) (All (λ (c : Column). IsColumnType c.ty) cs)
column_types cs = all_of (λ (c : Column). decided.is_column_type c.ty) (λ (c : Column). IsColumnType c.ty) (λ c. column_type c.ty) cs

at_most : (n m : ℕ) → Decides (nat_lt n (m + 1)) (n ≤ m)
at_most n m = ((λ h. omega (arith, (Decides-ltb n (m + 1)).0 h)), (λ h. (Decides-ltb n (m + 1)).1 (omega (arith, h))))

names_new : (xs : List (List ℕ)) → Decides (decided.is_new bytes_eq id_name xs && decided.are_distinct bytes_eq xs) (AreDistinct (id_name ∷ xs))
names_new xs = Decides-and (decided.is_new bytes_eq id_name xs) (decided.are_distinct bytes_eq xs) (decides_new bytes_eq bytes_eq-Decides id_name xs) (decides_distinct bytes_eq bytes_eq-Decides xs)

columns_right : (cs : List Column) → Decides
    (list_all (λ (c : Column). decided.is_column_type c.ty) cs && (decided.is_new bytes_eq id_name (decided.column_names cs) && decided.are_distinct bytes_eq (decided.column_names cs)))
    (All (λ (c : Column). IsColumnType c.ty) cs × AreDistinct (id_name ∷ decided.column_names cs))
columns_right cs = Decides-and (list_all (λ (c : Column). decided.is_column_type c.ty) cs) (decided.is_new bytes_eq id_name (decided.column_names cs) && decided.are_distinct bytes_eq (decided.column_names cs)) (column_types cs) (names_new (decided.column_names cs))

table_parts : (t : TableShape) → Decides (decided.is_lawful_table t) ((length t.columns ≤ 63) × (All (λ (c : Column). IsColumnType c.ty) t.columns × AreDistinct (id_name ∷ decided.column_names t.columns)))
table_parts t = Decides-and (nat_lt (length t.columns) 64) (list_all (λ (c : Column). decided.is_column_type c.ty) t.columns && (decided.is_new bytes_eq id_name (decided.column_names t.columns) && decided.are_distinct bytes_eq (decided.column_names t.columns))) (at_most (length t.columns) 63) (columns_right t.columns)

table_right : (t : TableShape) → Decides (decided.is_lawful_table t) (IsLawfulTable t)
table_right t = ((λ h. let k = (table_parts t).0 h in (k.0, k.1.0, k.1.1)), (λ h. (table_parts t).1 (h.0, (h.1, h.2))))

tables_right : (ts : List TableShape) → Decides (decided.are_distinct bytes_eq (decided.table_names ts) && list_all decided.is_lawful_table ts) (AreDistinct (decided.table_names ts) × All IsLawfulTable ts)
tables_right ts = Decides-and (decided.are_distinct bytes_eq (decided.table_names ts)) (list_all decided.is_lawful_table ts) (decides_distinct bytes_eq bytes_eq-Decides (decided.table_names ts)) (all_of decided.is_lawful_table IsLawfulTable table_right ts)

schema_parts : (s : Schema) → Decides (decided.is_lawful_schema s) ((length s.tables ≤ 32) × (AreDistinct (decided.table_names s.tables) × All IsLawfulTable s.tables))
schema_parts s = Decides-and (nat_lt (length s.tables) 33) (decided.are_distinct bytes_eq (decided.table_names s.tables) && list_all decided.is_lawful_table s.tables) (at_most (length s.tables) 32) (tables_right s.tables)

pub schema_right : (s : Schema) → Decides (decided.is_lawful_schema s) (IsLawfulSchema s)
schema_right s = ((λ h. let k = (schema_parts s).0 h in (k.0, k.1.0, k.1.1)), (λ h. (schema_parts s).1 (h.0, (h.1, h.2))))

gallery_kind : (k : Control) → Decides (decided.is_gallery_kind k) (k ≡ control.Gallery)
gallery_kind control.Gallery = (λ _. refl, λ _. refl)
gallery_kind control.Label = (λ h. absurd cc, λ h. absurd cc)
gallery_kind control.Button = (λ h. absurd cc, λ h. absurd cc)
gallery_kind control.TextInput = (λ h. absurd cc, λ h. absurd cc)
gallery_kind control.Slider = (λ h. absurd cc, λ h. absurd cc)
gallery_kind control.Checkbox = (λ h. absurd cc, λ h. absurd cc)
gallery_kind control.DatePicker = (λ h. absurd cc, λ h. absurd cc)

gallery : (c : Option ControlName) → Decides (decided.is_gallery_control c) (IsGallery c)
gallery (Some c) = gallery_kind c.kind
gallery None = (λ h. absurd cc, λ h. absurd h)

gallery_right : (cs : List ControlName) (g : Option ℕ) → Decides (decided.is_lawful_gallery cs g) (IsLawfulGallery cs g)
gallery_right cs (Some g) = gallery (slice_get cs g)
gallery_right cs None = (λ _. tt, λ _. refl)

control_right : (n : Names) (c : ControlName) → Decides (decided.is_lawful_control n c) (IsLawfulControl n c)
control_right n c = Decides-and (nat_lt c.screen (length n.screens)) (decided.is_lawful_gallery n.controls c.gallery) (Decides-ltb c.screen (length n.screens)) (gallery_right n.controls c.gallery)

has_right : (p : List ℕ) (c : Option ControlName) → Decides (decided.has_control_name p c) (Has p c)
has_right p (Some c) = (λ h. h, λ h. h)
has_right p None = (λ h. absurd cc, λ h. absurd h)

property_right : (n : Names) (p : Property) → Decides (decided.is_lawful_property n p) (IsLawfulProperty n p)
property_right n p = has_right p.name (slice_get n.controls p.control)

screen_right : (n : Names) (s : Option ℕ) → Decides (decided.is_lawful_screen n s) (IsLawfulScreen n s)
screen_right n (Some s) = Decides-ltb s (length n.screens)
screen_right n None = (λ _. tt, λ _. refl)

few : (n : ℕ) → Decides (decided.is_few n) (n < 2 ^ 32)
few n = Decides-ltb n 4294967296

cells_right : (n : Names) → Decides (decided.are_cells_distinct (decided.formula_cells n.formulas) (decided.property_cells n.properties)) (AreDistinct (decided.formula_cells n.formulas ++ decided.property_cells n.properties))
cells_right n = decides_joined nat_eq Decides-eqb (decided.formula_cells n.formulas) (decided.property_cells n.properties)

abbrev AreFew : Names → Type 0
AreFew n =
    (length n.screens < 2 ^ 32) × ((length n.controls < 2 ^ 32) × ((length n.properties < 2 ^ 32)
    × ((length n.formulas < 2 ^ 32) × ((length n.variables < 2 ^ 32) × (length n.collections < 2 ^ 32)))))

few_right : (n : Names) → Decides (decided.are_few n) (AreFew n)
few_right n =
    let f = decided.is_few in
    let a = length n.screens in
    let b = length n.controls in
    let c = length n.properties in
    let d = length n.formulas in
    let e = length n.variables in
    let g = length n.collections in
    Decides-and (f a) (f b && (f c && (f d && (f e && f g)))) (few a)
    (Decides-and (f b) (f c && (f d && (f e && f g))) (few b)
    (Decides-and (f c) (f d && (f e && f g)) (few c)
    (Decides-and (f d) (f e && f g) (few d)
    (Decides-and (f e) (f g) (few e) (few g)))))

parameters_right : (ps : List Parameter) → Decides (list_all (λ (p : Parameter). decided.is_column_type p.ty) ps) (All (λ (p : Parameter). IsColumnType p.ty) ps)
parameters_right ps = all_of (λ (p : Parameter). decided.is_column_type p.ty) (λ (p : Parameter). IsColumnType p.ty) (λ p. column_type p.ty) ps

function_right : (f : FunctionName) → Decides (decided.is_lawful_function f) (IsLawfulFunction f)
function_right f = Decides-and (list_all (λ (p : Parameter). decided.is_column_type p.ty) f.params) (decided.is_column_type f.result) (parameters_right f.params) (column_type f.result)

abbrev AreFunctions : List FunctionName → Type 0
AreFunctions fs = (length fs < 2 ^ 32) × (AreDistinct (decided.function_names fs) × All IsLawfulFunction fs)

functions_right : (fs : List FunctionName) → Decides (decided.are_lawful_functions fs) (AreFunctions fs)
functions_right fs =
    Decides-and (decided.is_few (length fs)) (decided.are_distinct bytes_eq (decided.function_names fs) && list_all decided.is_lawful_function fs) (few (length fs))
    (Decides-and (decided.are_distinct bytes_eq (decided.function_names fs)) (list_all decided.is_lawful_function fs)
    (decides_distinct bytes_eq bytes_eq-Decides (decided.function_names fs)) (all_of decided.is_lawful_function IsLawfulFunction function_right fs))

abbrev AreRight : Names → Type 0
AreRight n =
    All (IsLawfulControl n) n.controls × (All (IsLawfulProperty n) n.properties
    × (All (λ (v : Variable). IsLawfulScreen n v.screen) n.variables
    × (AreFunctions n.functions × AreDistinct (decided.formula_cells n.formulas ++ decided.property_cells n.properties))))

things_right : (n : Names) → Decides
    (list_all (decided.is_lawful_control n) n.controls && (list_all (decided.is_lawful_property n) n.properties
    && (list_all (λ (v : Variable). decided.is_lawful_screen n v.screen) n.variables
    && (decided.are_lawful_functions n.functions
    && decided.are_cells_distinct (decided.formula_cells n.formulas) (decided.property_cells n.properties))))) (AreRight n)
things_right n =
    let controls = list_all (decided.is_lawful_control n) n.controls in
    let properties = list_all (decided.is_lawful_property n) n.properties in
    let variables = list_all (λ (v : Variable). decided.is_lawful_screen n v.screen) n.variables in
    let functions = decided.are_lawful_functions n.functions in
    let cells = decided.are_cells_distinct (decided.formula_cells n.formulas) (decided.property_cells n.properties) in
    Decides-and controls (properties && (variables && (functions && cells))) (all_of (decided.is_lawful_control n) (IsLawfulControl n) (control_right n) n.controls)
    (Decides-and properties (variables && (functions && cells)) (all_of (decided.is_lawful_property n) (IsLawfulProperty n) (property_right n) n.properties)
    (Decides-and variables (functions && cells) (all_of (λ (v : Variable). decided.is_lawful_screen n v.screen) (λ (v : Variable). IsLawfulScreen n v.screen) (λ v. screen_right n v.screen) n.variables)
    (Decides-and functions cells (functions_right n.functions) (cells_right n))))

all_right : (n : Names) → Decides (decided.is_lawful n) (IsLawfulSchema n.schema × (AreFew n × AreRight n))
all_right n =
    let things = list_all (decided.is_lawful_control n) n.controls && (list_all (decided.is_lawful_property n) n.properties
    && (list_all (λ (v : Variable). decided.is_lawful_screen n v.screen) n.variables
    && (decided.are_lawful_functions n.functions
    && decided.are_cells_distinct (decided.formula_cells n.formulas) (decided.property_cells n.properties)))) in
    Decides-and (decided.is_lawful_schema n.schema) (decided.are_few n && things) (schema_right n.schema)
    (Decides-and (decided.are_few n) things (few_right n) (things_right n))

lawful_by : (n : Names) → IsLawfulSchema n.schema → AreFew n → AreRight n → IsLawful n
lawful_by n s f r =
    record {
      schema = s;
      screens = f.0;
      controls = (f.1.0, r.0);
      properties = (f.1.1.0, r.1.0);
      formulas = f.1.1.1.0;
      functions = (r.1.1.1.0.0, r.1.1.1.0.1.0, r.1.1.1.0.1.1);
      variables = (f.1.1.1.1.0, r.1.1.0);
      collections = f.1.1.1.1.1;
      cells = r.1.1.1.1;
    }

-- the test decides whether names are lawful
pub names_right : (n : Names) → Decides (decided.is_lawful n) (IsLawful n)
names_right n = (
  (λ h. let all = (all_right n).0 h in lawful_by n all.0 all.1.0 all.1.1),
  (λ h. (all_right n).1 (h.schema, ((h.screens, (h.controls.0, (h.properties.0, (h.formulas, (h.variables.0, h.collections))))), (h.controls.1, (h.properties.1, (h.variables.1, ((h.functions.0, (h.functions.1, h.functions.2)), h.cells))))))),
)
