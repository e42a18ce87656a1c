-- The formulas of controls in galleries, and what they are worth for an item.
use Rattle.std.proofs.Common.{◌≡◌, ℕ, ◌<◌, List, [], length, true, false, Option, Some, None, refl, sym, subst, ◌∙◌}
use Rattle.std.proofs.lemmas.Option.{slice_get_within}
use Rattle.std.specs.List.{slice_get}
use Rattle.std.specs.Prelude.{codes}
use Rattle.app_semantics.proofs.CellTypes.{property_found, type_by}
use Rattle.app_semantics.proofs.Freshness.{given_in, given_told, taken, today_is, where_told}
use Rattle.app_semantics.specs.Fresh.{AreKnown, IsValueOf, is_told, formula_context}
use Rattle.app_semantics.specs.Holding.{HoldsFitting}
use Rattle.app_semantics.specs.Present.{Present}
use Rattle.app_semantics.specs.Properties.{IsForItem, IsPropertyForItem}
use Rattle.app_semantics.specs.Sound.{IsCellOf, IsSoundApp, IsSoundCell}
use Rattle.app_semantics.specs.Telling.{told_on}
use Rattle.app_semantics.specs.app_cells.Leaning.{cell_of_property}
use Rattle.app_semantics.specs.app_cells.declared.app.App.{App}
use Rattle.app_semantics.specs.app_cells.declared.app.CellInfo.{CellInfo}
use Rattle.fx_types.specs.TypeView.{shape}
use Rattle.fx_types.specs.Types.{Shape, booleans}
use Rattle.fx_types.specs.Values.{Data}
use Rattle.fx_types.specs.declared.controls.Control.{Control}
use Rattle.fx_types.specs.declared.controls.Control.TheVariants as control
use Rattle.fx_semantics.proofs.Wider.{stays}
use Rattle.fx_semantics.specs.Sound.{IsItemFit}
use Rattle.fx_semantics.specs.Sources.{Gives as GivesTold}
use Rattle.fx_semantics.specs.Unique.{OneValue}
use Rattle.fx_core.specs.SourceTypes.{sources}
use Rattle.fx_core.specs.declared.names.Names.{Names}
use Rattle.fx_core.specs.declared.sources.Source.{Source}
use Rattle.fx_typing.specs.Typing.{item_context}
use Rattle.recalc.specs.Templates.{IsTemplateProperty, StandsIn}
use Rattle.recalc.specs.Values.{CellsFit}

-- ---- cells of templates

visible_type : (kind : Control) (items : Shape) → type_by items kind (codes "Visible") ≡ Some booleans
visible_type control.Label items = refl
visible_type control.Button items = refl
visible_type control.TextInput items = refl
visible_type control.Slider items = refl
visible_type control.Checkbox items = refl
visible_type control.DatePicker items = refl
visible_type control.Gallery items = refl

-- what is the formula of such a cell wherever it is written
pub template : (a : App) (g : ℕ) (o : Option ℕ) → ((d : ℕ) → o ≡ Some d → (t : Shape) × IsCellOf a.cells d (Some g) t) → IsTemplateProperty a g o
template a g (Some d) h = h d refl
template a g None h = tt

pub in_gallery : (a : App) (g d : ℕ) (o : Option ℕ) (t : Shape) → o ≡ Some g → IsCellOf a.cells d o t → (u : Shape) × IsCellOf a.cells d (Some g) u
in_gallery a g d o t own h = (t, subst (λ (x : Option ℕ). IsCellOf a.cells d x t) own h)

pub visible_for : (a : App) (g k : ℕ) → IsSoundApp a → StandsIn a.names k g → IsTemplateProperty a g (cell_of_property a.names k (codes "Visible"))
visible_for a g k s h =
    template a g (cell_of_property a.names k (codes "Visible")) (λ d e. in_gallery a g d (h.0).gallery booleans h.2
    (property_found a k (codes "Visible") d h.0 booleans s e h.1 (visible_type (h.0).kind (shape (h.0).items))))

same_info : (c d : CellInfo) (o : Option CellInfo) → o ≡ Some c → o ≡ Some d → c ≡ d
same_info c d o e f = cc

-- the cell doesn't act, and sees the gallery's item
pub template_cell : (a : App) (g k : ℕ) (c : CellInfo) → IsTemplateProperty a g (Some k) → slice_get a.cells k ≡ Some c → (c.cell.acts ≡ false) × (c.cell.item ≡ Some g)
template_cell a g k c h there =
    let same : (h.1).cell ≡ c = same_info (h.1).cell c (slice_get a.cells k) (h.1).there there in
    (subst (λ (x : CellInfo). x.cell.acts ≡ false) same (h.1).quiet, subst (λ (x : CellInfo). x.cell.item ≡ Some g) same (h.1).item)

pub template_there : (a : App) (g k : ℕ) → IsTemplateProperty a g (Some k) → k < length a.cells
template_there a g k h = slice_get_within a.cells k (h.1).cell (h.1).there

-- an item of the gallery fits what it sees
pub sees_item : (n : Names) (g : ℕ) (item : Data) (o : Option ℕ) → o ≡ Some g → IsItemFit (Some item) (item_context n (Some g)) → IsItemFit (Some item) (item_context n o)
sees_item n g item o e h = subst (λ (x : Option ℕ). IsItemFit (Some item) (item_context n x)) (sym e) h

-- ---- one value for an item

-- what the laws of values and of fresh values need
pub record Ground (p : Present) (values : ℕ → Data) : Type 0 where
  pub one : OneValue
  pub sound : IsSoundApp p.app
  pub holds : HoldsFitting p.app.names p.session
  pub known : AreKnown p.app p.tables
  pub fits : CellsFit p.app values

value_one : (p : Present) (values : ℕ → Data) (item : Data) (k : ℕ) (c : CellInfo) (v w : Data) → Ground p values → slice_get p.app.cells k ≡ Some c →
    IsValueOf p values (Some item) c v → IsValueOf p values (Some item) c w → v ≡ w
value_one p values item k c v w g there x y =
    let day = today_is p.moment in
    let T : Source → Data = told_on day.0 p.app.names p.session p.tables values in
    let sound : IsSoundCell p.app.names c = g.sound.cells k c there in
    let told : is_told p.tables c.reads ≡ true = g.known.told k c there in
    g.one (sources p.app.names) T [] (Some item) None (taken p c) v w
    (stays (GivesTold (sources p.app.names) (Some T)) (taken p c) (formula_context p values c.reads (Some item)) v
    (λ r d q. (given_in p values c r d g.sound g.holds g.known.fit sound (λ s among e f behind at. g.fits e f at) q.0 q.1, given_told p values day.0 r d day.1 q.1)) (where_told _ (is_told p.tables c.reads) told x))
    (stays (GivesTold (sources p.app.names) (Some T)) (taken p c) (formula_context p values c.reads (Some item)) w
    (λ r d q. (given_in p values c r d g.sound g.holds g.known.fit sound (λ s among e f behind at. g.fits e f at) q.0 q.1, given_told p values day.0 r d day.1 q.1)) (where_told _ (is_told p.tables c.reads) told y))

for_item_one : (p : Present) (values : ℕ → Data) (item unwritten : Data) (o : Option ℕ) (v w : Data) → Ground p values → IsForItem p values item unwritten o v → IsForItem p values item unwritten o w → v ≡ w
for_item_one p values item unwritten None v w g h j = h ∙ sym j
for_item_one p values item unwritten (Some k) v w g h j =
    value_one p values item k h.0 v w g h.1 h.2 (subst (λ (c : CellInfo). IsValueOf p values (Some item) c w) (same_info j.0 h.0 (slice_get p.app.cells k) j.1 h.1) j.2)

-- a property has one value for an item
pub property_one : (p : Present) (values : ℕ → Data) (item : Data) (k : ℕ) (name : List ℕ) (unwritten v w : Data) → Ground p values →
    IsPropertyForItem p values item k name unwritten v → IsPropertyForItem p values item k name unwritten w → v ≡ w
property_one p values item k name unwritten v w g h j = for_item_one p values item unwritten (cell_of_property p.app.names k name) v w g h j
