-- The types of the cells that sources lead to.
use Rattle.std.proofs.Common.{◌≡◌, ℕ, suc, List, [], ◌∷◌, Bool, true, false, Option, Some, None, refl, sym, subst, arith, ◌∙◌, if◌then◌else◌}
use Rattle.std.proofs.lemmas.Slice.Eq.{bytes_eq-Decides}
use Rattle.std.specs.List.{find, slice_get}
use Rattle.std.specs.Prelude.{nat_eq, bytes_eq, codes, encode_utf8_all, option_map, option_and_then}
use Rattle.std.proofs.lemmas.Bool.{and_parts}
use Rattle.app_cells.specs.Leaning.{cell_of_property, default_cell, default_name, is_property, items_cell}
use Rattle.app_cells.specs.declared.app.App.{App}
use Rattle.app_cells.specs.declared.app.CellInfo.{CellInfo}
use Rattle.app_semantics.specs.Sound.{IsCellOf, IsSoundApp}
use Rattle.fx_types.specs.TypeView.{shape}
use Rattle.fx_types.specs.Types.{Shape, tables}
use Rattle.fx_types.specs.declared.controls.Control.TheVariants as control
use Rattle.fx_types.specs.declared.controls.Control.{Control}
use Rattle.fx_core.specs.Controls.{input_type, is_items, property_type}
use Rattle.fx_core.specs.SourceTypes.{formula_cell, item_columns, property_cell, property_of, sources}
use Rattle.fx_core.specs.declared.names.ControlName.{ControlName}
use Rattle.fx_core.specs.declared.names.FormulaName.{FormulaName}
use Rattle.fx_core.specs.declared.names.Names.{Names}
use Rattle.fx_core.specs.declared.names.Property.{Property}
use Rattle.fx_core.specs.declared.sources.Source.TheVariants as source

pub equal : (a b : ℕ) → nat_eq a b ≡ true → a ≡ b
equal a b e = grind arith

pub then_some : {A B : Type 0} (f : A → Option B) (o : Option A) (b : B) → option_and_then f o ≡ Some b → (a : A) × (o ≡ Some a) × (f a ≡ Some b)
then_some f None b e = absurd cc
then_some f (Some a) b e = (a, refl, e)

-- the cell of this number has this type
abbrev pub HasCell : List CellInfo → ℕ → Shape → Type 0
HasCell cells k t = (c : CellInfo) × (slice_get cells k ≡ Some c) × (shape c.ty ≡ t)

of_cell : (cells : List CellInfo) (k : ℕ) (g : Option ℕ) (t : Shape) → IsCellOf cells k g t → HasCell cells k t
of_cell cells k g t h = (h.cell, h.there, h.ty)

abbrev AreOf : List CellInfo → List FormulaName → Type 0
AreOf cells fs = (i : ℕ) (f : FormulaName) → slice_get fs i ≡ Some f → IsCellOf cells f.cell None (shape f.ty)

abbrev ArePropertiesOf : List CellInfo → List ControlName → List Property → Type 0
ArePropertiesOf cells cs ps =
    (i : ℕ) (p : Property) (c : ControlName) (t : Shape) → slice_get ps i ≡ Some p → slice_get cs p.control ≡ Some c → property_of p.name c ≡ Some t → IsCellOf cells p.cell c.gallery t

property_has : (cells : List CellInfo) (cs : List ControlName) (k : ℕ) (ps : List Property) (t : Shape) → ArePropertiesOf cells cs ps → property_cell cs k ps ≡ Some t → HasCell cells k t
property_has cells cs k [] t h e = absurd cc
property_has cells cs k (p ∷ ps) t h e = by (nat_eq p.cell k) refl (property_has cells cs k ps t (λ i. h (suc i))) e
  where
    by : (b : Bool) → nat_eq p.cell k ≡ b → (property_cell cs k ps ≡ Some t → HasCell cells k t) → (if b then option_and_then (property_of p.name) (slice_get cs p.control) else property_cell cs k ps) ≡ Some t → HasCell cells k t
    by true q later r =
        let found = then_some (property_of p.name) (slice_get cs p.control) t r in
        subst (λ j. HasCell cells j t) (equal p.cell k q) (of_cell cells p.cell (found.0).gallery t (h 0 p found.0 t refl found.1 found.2))
    by false q later r = later r

formula_has : (cells : List CellInfo) (n : Names) (k : ℕ) (fs : List FormulaName) (t : Shape) → AreOf cells fs → ArePropertiesOf cells n.controls n.properties → formula_cell n k fs ≡ Some t → HasCell cells k t
formula_has cells n k [] t h ps e = property_has cells n.controls k n.properties t ps e
formula_has cells n k (f ∷ fs) t h ps e = by (nat_eq f.cell k) refl (formula_has cells n k fs t (λ i. h (suc i)) ps) e
  where
    by : (b : Bool) → nat_eq f.cell k ≡ b → (formula_cell n k fs ≡ Some t → HasCell cells k t) → (if b then Some (shape f.ty) else formula_cell n k fs) ≡ Some t → HasCell cells k t
    by true q later r =
        let same : shape f.ty ≡ t = cc in
        subst (λ j. HasCell cells j t) (equal f.cell k q) (subst (HasCell cells f.cell) same (of_cell cells f.cell None (shape f.ty) (h 0 f refl)))
    by false q later r = later r

-- a cell that has a type as a source has it
pub source_cell : (a : App) (k : ℕ) (t : Shape) → IsSoundApp a → sources a.names (source.Cell k) ≡ Some t → HasCell a.cells k t
source_cell a k t s e = formula_has a.cells a.names k a.names.formulas t s.formulas s.properties e

-- ---- properties
-- a property that was found
pub record IsFound (ps : List Property) (k : ℕ) (name : List ℕ) (d : ℕ) : Type 0 where
  pub property : Property
  pub place : ℕ
  pub there : slice_get ps place ≡ Some property
  pub control : property.control ≡ k
  pub name_is : encode_utf8_all property.name ≡ name
  pub cell : property.cell ≡ d

pub found : (ps : List Property) (k : ℕ) (name : List ℕ) (d : ℕ) → option_map (λ (p : Property). p.cell) (find (is_property k name) ps) ≡ Some d → IsFound ps k name d
found [] k name d e = absurd cc
found (p ∷ ps) k name d e = by (is_property k name p) refl (found ps k name d) e
  where
    by : (b : Bool) → is_property k name p ≡ b → (option_map (λ (q : Property). q.cell) (find (is_property k name) ps) ≡ Some d → IsFound ps k name d) → option_map (λ (q : Property). q.cell) (if b then Some p else find (is_property k name) ps) ≡ Some d → IsFound (p ∷ ps) k name d
    by true q later r =
        let parts = and_parts (nat_eq p.control k) (bytes_eq (encode_utf8_all p.name) name) q in record {
          property = p;
          place = 0;
          there = refl;
          control = equal p.control k parts.0;
          name_is = (bytes_eq-Decides (encode_utf8_all p.name) name).0 parts.1;
          cell = cc;
        }
    by false q later r =
        let more = later r in record {
          property = more.property;
          place = suc more.place;
          there = more.there;
          control = more.control;
          name_is = more.name_is;
          cell = more.cell;
        }

-- the type of a property by the bytes of its name
abbrev pub type_by : Shape → Control → List ℕ → Option Shape
type_by items c name = if is_items c name then Some (tables (item_columns items)) else property_type c name

-- the cell of a written property has the property's type, and sees the item of the gallery that its control stands in
pub property_found : (a : App) (k : ℕ) (name : List ℕ) (d : ℕ) (c : ControlName) (t : Shape) → IsSoundApp a → cell_of_property a.names k name ≡ Some d →
    slice_get a.names.controls k ≡ Some c → type_by (shape c.items) c.kind name ≡ Some t → IsCellOf a.cells d c.gallery t
property_found a k name d c t s e there ty =
    let at = found a.names.properties k name d e in
    let control : slice_get a.names.controls at.property.control ≡ Some c = subst (λ j. slice_get a.names.controls j ≡ Some c) (sym at.control) there in
    let typed : property_of at.property.name c ≡ Some t = subst (λ x. type_by (shape c.items) c.kind x ≡ Some t) (sym at.name_is) ty in
    subst (λ j. IsCellOf a.cells j c.gallery t) at.cell (s.properties at.place at.property c t at.there control typed)

default_type : (c : Control) (items t : Shape) (name : List ℕ) → default_name c ≡ Some name → input_type c ≡ Some t → type_by items c name ≡ Some t
default_type control.Label items t name e f = absurd cc
default_type control.Button items t name e f = absurd cc
default_type control.TextInput items t name e f = let q : codes "Default" ≡ name = cc in subst (λ x. type_by items control.TextInput x ≡ Some t) q f
default_type control.Slider items t name e f = let q : codes "Default" ≡ name = cc in subst (λ x. type_by items control.Slider x ≡ Some t) q f
default_type control.Checkbox items t name e f = let q : codes "Default" ≡ name = cc in subst (λ x. type_by items control.Checkbox x ≡ Some t) q f
default_type control.DatePicker items t name e f = let q : codes "DefaultDate" ≡ name = cc in subst (λ x. type_by items control.DatePicker x ≡ Some t) q f
default_type control.Gallery items t name e f = absurd cc

-- the default of an input has the type of what its user gives
pub default_has : (a : App) (k d : ℕ) (c : ControlName) (t : Shape) → IsSoundApp a → default_cell a.names k ≡ Some d → slice_get a.names.controls k ≡ Some c → input_type c.kind ≡ Some t → HasCell a.cells d t
default_has a k d c t s e there ty =
    let control = then_some (λ (x : ControlName). option_and_then (cell_of_property a.names k) (default_name x.kind)) (slice_get a.names.controls k) d e in
    let same : control.0 ≡ c = let q : Some control.0 ≡ Some c = sym control.1 ∙ there in cc in
    let named = then_some (cell_of_property a.names k) (default_name (control.0).kind) d control.2 in
    let name : default_name c.kind ≡ Some named.0 = subst (λ (x : ControlName). default_name x.kind ≡ Some named.0) same named.1 in
    of_cell a.cells d c.gallery t (property_found a k named.0 d c t s named.2 there (default_type c.kind (shape c.items) t named.0 name ty))

-- the items of a gallery are rows of its columns
pub items_have : (a : App) (k d : ℕ) (c : ControlName) → IsSoundApp a → items_cell a.names k ≡ Some d → slice_get a.names.controls k ≡ Some c → c.kind ≡ control.Gallery → HasCell a.cells d (tables (item_columns (shape c.items)))
items_have a k d c s e there kind =
    let t : Shape = tables (item_columns (shape c.items)) in
    of_cell a.cells d c.gallery t (property_found a k (codes "Items") d c t s e there (subst (λ x. type_by (shape c.items) x (codes "Items") ≡ Some t) (sym kind) refl))
