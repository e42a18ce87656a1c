-- What is around formulas has lawful types.
use Rattle.std.proofs.Common.{◌≡◌, ℕ, zero, suc, List, [], ◌∷◌, Bool, true, false, All, Option, Some, None, option_map, nat_eq, subst, slice_get, if◌then◌else◌, encode_utf8_all, bytes_eq, codes}
use Rattle.std.proofs.lemmas.List.Elements.{All-head, All-tail}
use Rattle.std.specs.Prelude.{option_and_then, ◌||◌}
use Rattle.fx_types.specs.TypeView.{shape}
use Rattle.fx_types.specs.Types.{Shape, blanks, numbers, texts, booleans, dates, records, tables, ColumnList, no_columns, column}
use Rattle.fx_types.specs.declared.controls.Control.{Control}
use Rattle.fx_types.specs.declared.controls.Control.TheVariants as control
use Rattle.fx_types.specs.declared.types.Ty.{Ty}
use Rattle.fx_types.specs.declared.types.Ty.TheVariants as ty
use Rattle.fx_semantics.specs.Sound.{AreLawfulColumns, IsLawfulContext, IsLawfulType}
use Rattle.fx_core.specs.Controls.{input_type, is_items, own_type}
use Rattle.fx_core.specs.Lawful.{IsColumnType, IsLawful, IsLawfulTable, id_name}
use Rattle.fx_core.specs.SourceTypes.{chosen_shape, columns_of, formula_cell, if_context, if_global, item_columns, item_type, property_cell, property_of, put_column, put_columns, sources}
use Rattle.fx_core.specs.declared.names.Collection.{Collection}
use Rattle.fx_core.specs.declared.names.ControlName.{ControlName}
use Rattle.fx_core.specs.declared.names.FormulaName.{FormulaName}
use Rattle.fx_core.specs.declared.names.Names.{Names}
use Rattle.fx_core.specs.declared.names.Property.{Property}
use Rattle.fx_core.specs.declared.names.Variable.{Variable}
use Rattle.fx_core.specs.declared.schema.Column.{Column}
use Rattle.fx_core.specs.declared.schema.TableShape.{TableShape}
use Rattle.fx_core.specs.declared.sources.Source.{Source}
use Rattle.fx_core.specs.declared.sources.Source.TheVariants as source
use Rattle.fx_typing.specs.Typing.{item_context}
use Rattle.fx_semantics.proofs.Lawful.{put_lawful}
use Rattle.app_semantics.specs.Sound.{context_at}
use Rattle.app_loader.specs.Types.{AreLawfullyTyped}

pub all_at : {A : Type 0} (P : A → Type 0) (xs : List A) (k : ℕ) (x : A) → All P xs → slice_get xs k ≡ Some x → P x
all_at P [] k x h e = absurd cc
all_at P (y ∷ xs) zero x h e = let same : y ≡ x = cc in subst P same (All-head P y xs h)
all_at P (y ∷ xs) (suc k) x h e = all_at P xs k x (All-tail P y xs h) e

-- a type that there may be is lawful
abbrev IfLawful : Option Shape → Type 0
IfLawful (Some t) = IsLawfulType t
IfLawful None = Unit {0}

lawful_some : (o : Option Shape) (t : Shape) → IfLawful o → o ≡ Some t → IsLawfulType t
lawful_some None t h e = absurd cc
lawful_some (Some u) t h e = let same : u ≡ t = cc in subst IsLawfulType same h

at_place : {A : Type 0} (P : A → Type 0) (f : A → Option Shape) (xs : List A) (k : ℕ) → All P xs → ((a : A) → P a → IfLawful (f a)) → IfLawful (option_and_then f (slice_get xs k))
at_place P f [] k h go = tt
at_place P f (x ∷ xs) zero h go = go x (All-head P x xs h)
at_place P f (x ∷ xs) (suc k) h go = at_place P f xs k (All-tail P x xs h) go

map_place : {A : Type 0} (P : A → Type 0) (f : A → Shape) (xs : List A) (k : ℕ) → All P xs → ((a : A) → P a → IsLawfulType (f a)) → IfLawful (option_map f (slice_get xs k))
map_place P f [] k h go = tt
map_place P f (x ∷ xs) zero h go = go x (All-head P x xs h)
map_place P f (x ∷ xs) (suc k) h go = map_place P f xs k (All-tail P x xs h) go

-- ---- controls
columns_lawful : (t : Shape) → IsLawfulType t → AreLawfulColumns (item_columns t)
columns_lawful (tables cs) l = l
columns_lawful blanks l = tt
columns_lawful numbers l = tt
columns_lawful texts l = tt
columns_lawful booleans l = tt
columns_lawful dates l = tt
columns_lawful (records cs) l = tt

if_lawful : (b : Bool) (t : Shape) (o : Option Shape) → IsLawfulType t → IfLawful o → IfLawful (if b then Some t else o)
if_lawful true t o l h = l
if_lawful false t o l h = h

own_lawful : (k : Control) (n : List ℕ) → IfLawful (own_type k n)
own_lawful control.Label n = if_lawful (bytes_eq n (codes "Text")) texts None tt tt
own_lawful control.Button n = if_lawful (bytes_eq n (codes "Text")) texts None tt tt
own_lawful control.TextInput n = if_lawful (bytes_eq n (codes "Default")) texts None tt tt
own_lawful control.Slider n = if_lawful (bytes_eq n (codes "Min") || bytes_eq n (codes "Max") || bytes_eq n (codes "Default")) numbers None tt tt
own_lawful control.Checkbox n = if_lawful (bytes_eq n (codes "Text")) texts _ tt (if_lawful (bytes_eq n (codes "Default")) booleans None tt tt)
own_lawful control.DatePicker n = if_lawful (bytes_eq n (codes "DefaultDate")) dates None tt tt
own_lawful control.Gallery n = tt

property_lawful : (p : List ℕ) (c : ControlName) → IsLawfulType (shape c.items) → IfLawful (property_of p c)
property_lawful p c l =
    if_lawful (is_items c.kind (encode_utf8_all p)) (tables (item_columns (shape c.items))) _ (columns_lawful (shape c.items) l)
    (if_lawful (bytes_eq (encode_utf8_all p) (codes "Visible")) booleans _ tt (own_lawful c.kind (encode_utf8_all p)))

input_lawful : (k : Control) → IfLawful (input_type k)
input_lawful control.TextInput = tt
input_lawful control.Slider = tt
input_lawful control.Checkbox = tt
input_lawful control.DatePicker = tt
input_lawful control.Label = tt
input_lawful control.Button = tt
input_lawful control.Gallery = tt

chosen_lawful : (k : Control) (t : Shape) → IsLawfulType t → IfLawful (chosen_shape k t)
chosen_lawful control.Gallery t l = l
chosen_lawful control.TextInput t l = tt
chosen_lawful control.Slider t l = tt
chosen_lawful control.Checkbox t l = tt
chosen_lawful control.DatePicker t l = tt
chosen_lawful control.Label t l = tt
chosen_lawful control.Button t l = tt

-- ---- tables
column_lawful : (t : Ty) → IsColumnType t → IsLawfulType (shape t)
column_lawful ty.Number h = tt
column_lawful ty.Text h = tt
column_lawful ty.Boolean h = tt
column_lawful ty.Date h = tt
column_lawful t h = absurd h

all_put : (ds : List Column) (cs : ColumnList) → All (λ (c : Column). IsColumnType c.ty) ds → AreLawfulColumns cs → AreLawfulColumns (put_columns ds cs)
all_put [] cs h l = l
all_put (d ∷ ds) cs h l =
    let P : Column → Type 0 = λ (c : Column). IsColumnType c.ty in
    all_put ds (put_column d.name (shape d.ty) cs) (All-tail P d ds h) (put_lawful d.name (shape d.ty) cs (column_lawful d.ty (All-head P d ds h)) l)

table_lawful : (t : TableShape) → IsLawfulTable t → IsLawfulType (tables (columns_of t))
table_lawful t h = all_put t.columns (column id_name numbers no_columns) h.1 (tt, tt, tt)

-- ---- sources
module _ (n : Names) (law : IsLawful n) (types : AreLawfullyTyped n) where
  property_cell_lawful : (k : ℕ) (ps : List Property) → IfLawful (property_cell n.controls k ps)
  property_cell_lawful k [] = tt
  property_cell_lawful k (p ∷ ps) = by (nat_eq p.cell k) (property_cell_lawful k ps)
    where
      by : (b : Bool) → IfLawful (property_cell n.controls k ps) → IfLawful (if b then option_and_then (property_of p.name) (slice_get n.controls p.control) else property_cell n.controls k ps)
      by true r = at_place (λ (c : ControlName). IsLawfulType (shape c.items)) (property_of p.name) n.controls p.control types.controls (λ c l. property_lawful p.name c l)
      by false r = r

  formula_cell_lawful : (k : ℕ) (fs : List FormulaName) → All (λ (f : FormulaName). IsLawfulType (shape f.ty)) fs → IfLawful (formula_cell n k fs)
  formula_cell_lawful k [] h = property_cell_lawful k n.properties
  formula_cell_lawful k (f ∷ fs) h =
      let P : FormulaName → Type 0 = λ (f : FormulaName). IsLawfulType (shape f.ty) in
      if_lawful (nat_eq f.cell k) (shape f.ty) (formula_cell n k fs) (All-head P f fs h) (formula_cell_lawful k fs (All-tail P f fs h))

  global_lawful : (v : Variable) (s : Option ℕ) → IsLawfulType (shape v.ty) → IfLawful (if_global s (shape v.ty))
  global_lawful v None l = l
  global_lawful v (Some s) l = tt

  context_lawful : (v : Variable) (s : Option ℕ) → IsLawfulType (shape v.ty) → IfLawful (if_context s (shape v.ty))
  context_lawful v None l = tt
  context_lawful v (Some s) l = l

  source_lawful : (s : Source) → IfLawful (sources n s)
  source_lawful (source.Cell k) = formula_cell_lawful k n.formulas types.formulas
  source_lawful (source.Global k) = at_place (λ (v : Variable). IsLawfulType (shape v.ty)) (λ (v : Variable). if_global v.screen (shape v.ty)) n.variables k types.variables (λ v l. global_lawful v v.screen l)
  source_lawful (source.Context k) = at_place (λ (v : Variable). IsLawfulType (shape v.ty)) (λ (v : Variable). if_context v.screen (shape v.ty)) n.variables k types.variables (λ v l. context_lawful v v.screen l)
  source_lawful (source.Gathered k) = map_place (λ (c : Collection). IsLawfulType (shape c.ty)) (λ (c : Collection). shape c.ty) n.collections k types.collections (λ c l. l)
  source_lawful (source.Input k) = at_place (λ (c : ControlName). IsLawfulType (shape c.items)) (λ (c : ControlName). input_type c.kind) n.controls k types.controls (λ c l. input_lawful c.kind)
  source_lawful (source.Chosen k) =
      at_place (λ (c : ControlName). IsLawfulType (shape c.items)) (λ (c : ControlName). chosen_shape c.kind (item_type c)) n.controls k types.controls
      (λ c l. chosen_lawful c.kind (item_type c) (columns_lawful (shape c.items) l))
  source_lawful (source.Table k) = map_place IsLawfulTable (λ (t : TableShape). tables (columns_of t)) n.schema.tables k law.schema.2 (λ t h. table_lawful t h)
  source_lawful source.Today = tt

  item_lawful : (g : Option ℕ) → IfLawful (item_context n g)
  item_lawful None = tt
  item_lawful (Some g) = map_place (λ (c : ControlName). IsLawfulType (shape c.items)) item_type n.controls g types.controls (λ c l. columns_lawful (shape c.items) l)

  pub context_lawful_at : (g : Option ℕ) → IsLawfulContext (context_at n g)
  context_lawful_at g = record {
    of_sources = λ s t e. lawful_some (sources n s) t (source_lawful s) e;
    of_scopes = tt;
    of_item = λ t e. lawful_some (item_context n g) t (item_lawful g) e;
    of_functions = λ k us t e. absurd cc;
  }
