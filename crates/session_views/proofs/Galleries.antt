-- The properties of the controls of a template.
use Rattle.std.proofs.Common.{◌≡◌, ℕ, zero, suc, ◌<◌, List, [], ◌∷◌, length, get_or, true, Option, Some, None, refl, sym, subst, ap, ◌∙◌}
use Rattle.std.proofs.lemmas.List.Quantifiers.{position-Some}
use Rattle.std.proofs.lemmas.Option.{get_or_from_slice_get, slice_get_within}
use Rattle.std.specs.List.{position, slice_get}
use Rattle.std.specs.Prelude.{bytes_eq, codes, option_map}
use Rattle.std.proofs.lemmas.Bool.{and_parts}
use Rattle.recalc.specs.app_cells.Leaning.{cell_of_property, items_cell}
use Rattle.recalc.specs.app_cells.declared.app.App.{App}
use Rattle.recalc.proofs.of_app_semantics.CellTypes.{equal, found, items_have, property_found, type_by}
use Rattle.recalc.specs.app_semantics.Present.{items_of, cell_value_or}
use Rattle.recalc.specs.app_semantics.Sound.{IsSoundApp}
use Rattle.session_views.specs.Galleries.{is_gallery, is_gallery_named}
use Rattle.session_views.specs.Ready.{IsGalleryOf, IsItemOf}
use Rattle.session_views.specs.Views.{is_in}
use Rattle.fx_types.specs.TypeView.{shape}
use Rattle.fx_types.specs.Types.{ColumnList, Shape, tables, texts}
use Rattle.fx_types.specs.Values.{Data, no_rows, tab}
use Rattle.fx_types.specs.declared.controls.Control.TheVariants as control
use Rattle.fx_types.specs.declared.controls.Control.{Control}
use Rattle.recalc.proofs.of_fx_semantics.Tables.{RowsFit, rows_in_fit}
use Rattle.recalc.specs.fx_semantics.Around.{record_of}
use Rattle.recalc.specs.fx_semantics.Rows.{rows_in}
use Rattle.recalc.specs.fx_semantics.Sound.{IsItemFit}
use Rattle.fx_tables.proofs.FitRows.{RowFits}
use Rattle.fx_value.specs.Columns.{Row}
use Rattle.fx_core.specs.Controls.{has_property}
use Rattle.fx_core.specs.Lawful.{Has, IsLawfulProperty}
use Rattle.fx_core.specs.SourceTypes.{item_columns, item_type}
use Rattle.fx_core.specs.declared.names.ControlName.{ControlName}
use Rattle.fx_core.specs.declared.names.Names.{Names}
use Rattle.fx_typing.specs.Typing.{item_context}
use Rattle.fx_value.specs.Fits.{fits_in}
use Rattle.recalc.specs.Values.{CellsFit}
use Rattle.recalc.specs.Templates.{IsTemplateProperty}
use Rattle.recalc.proofs.ForItems.{in_gallery, template}
use Rattle.recalc.proofs.of_app_semantics.Freshness.{got}

-- a control of a template stands in its gallery
pub is_in_gallery : (g : ℕ) (o : Option ℕ) → is_in g o ≡ true → o ≡ Some g
is_in_gallery g (Some h) e = ap Some (equal h g e)
is_in_gallery g None e = absurd cc

text_type : (c : Control) (items : Shape) → has_property c (codes "Text") ≡ true → type_by items c (codes "Text") ≡ Some texts
text_type control.Label items h = refl
text_type control.Button items h = refl
text_type control.Checkbox items h = refl
text_type control.TextInput items h = absurd cc
text_type control.Slider items h = absurd cc
text_type control.DatePicker items h = absurd cc
text_type control.Gallery items h = absurd cc

-- a written property is one that its control's kind has
pub has_it : (a : App) (k d : ℕ) (name : List ℕ) (c : ControlName) → IsSoundApp a → cell_of_property a.names k name ≡ Some d → slice_get a.names.controls k ≡ Some c → has_property c.kind name ≡ true
has_it a k d name c s e there =
    let at = found a.names.properties k name d e in
    let place : IsLawfulProperty a.names at.property = subst (IsLawfulProperty a.names) (get_or_from_slice_get a.names.properties at.place at.property at.property at.there)
    (s.names.properties.1 at.place at.property (slice_get_within a.names.properties at.place at.property at.there)) in
    let control : slice_get a.names.controls at.property.control ≡ Some c = subst (λ j. slice_get a.names.controls j ≡ Some c) (sym at.control) there in
    let has : Has at.property.name (Some c) = subst (Has at.property.name) control place in
    subst (λ x. has_property c.kind x ≡ true) at.name_is has

pub text_for : (a : App) (g k : ℕ) (c : ControlName) → IsSoundApp a → slice_get a.names.controls k ≡ Some c → is_in g c.gallery ≡ true → IsTemplateProperty a g (cell_of_property a.names k (codes "Text"))
text_for a g k c s there i =
    template a g (cell_of_property a.names k (codes "Text")) (λ d e. in_gallery a g d c.gallery texts (is_in_gallery g c.gallery i)
    (property_found a k (codes "Text") d c texts s e there (text_type c.kind (shape c.items) (has_it a k d (codes "Text") c s e there))))

-- an item fits what the formulas of the template see
pub item_fits : (n : Names) (g : ℕ) (r : Row) → IsItemOf n g r → IsItemFit (Some (record_of r)) (item_context n (Some g))
item_fits n g r h =
    let type : item_context n (Some g) ≡ Some (item_type h.0) = ap (λ p. option_map item_type p) (h.1).there in
    subst (λ t. IsItemFit (Some (record_of r)) t) (sym type) h.2

-- ---- a gallery by its name
pub gallery_kind : (c : Control) → is_gallery c ≡ true → c ≡ control.Gallery
gallery_kind control.Gallery e = refl
gallery_kind control.Label e = absurd cc
gallery_kind control.Button e = absurd cc
gallery_kind control.TextInput e = absurd cc
gallery_kind control.Slider e = absurd cc
gallery_kind control.Checkbox e = absurd cc
gallery_kind control.DatePicker e = absurd cc

-- what has the name of a gallery is one
pub gallery_there : (n : Names) (name : List ℕ) (k : ℕ) → position (is_gallery_named name) n.controls ≡ Some k → k < length n.controls → IsGalleryOf n k
gallery_there n name k e within =
    let c = got n.controls k within in
    let is = position-Some (is_gallery_named name) n.controls k c.0 e in
    let here : get_or n.controls k c.0 ≡ c.0 = get_or_from_slice_get n.controls k c.0 c.0 c.1 in
    let passed : is_gallery_named name c.0 ≡ true = subst (λ (x : ControlName). is_gallery_named name x ≡ true) here is.1 in
    (c.0, record { there = c.1; kind = gallery_kind (c.0).kind (and_parts (is_gallery (c.0).kind) (bytes_eq (c.0).name name) passed).0 })

-- ---- the rows of a gallery
row_got : (cs : ColumnList) (rows : List Row) (i : ℕ) (r : Row) → RowsFit cs rows → slice_get rows i ≡ Some r → RowFits cs r
row_got cs [] i r h there = absurd cc
row_got cs (x ∷ xs) zero r h there = let same : x ≡ r = cc in subst (λ (y : Row). RowFits cs y) same h.0
row_got cs (x ∷ xs) (suc i) r h there = row_got cs xs i r h.1 there

none_got : (i : ℕ) (r : Row) → slice_get [] i ≡ Some r → ⊥
none_got i r there = cc

-- each row of its items is an item
pub rows_are_items : (a : App) (values : ℕ → Data) (g : ℕ) (rows : List Row) (d : Data) → IsSoundApp a → CellsFit a values → IsGalleryOf a.names g → d ≡ items_of a.names values g → rows ≡ rows_in d →
    (i : ℕ) (r : Row) → slice_get rows i ≡ Some r → IsItemOf a.names g r
rows_are_items a values g rows d s fit at is all i r there =
    by (items_cell a.names g) refl (subst (λ (rs : List Row). slice_get rs i ≡ Some r) (all ∙ ap rows_in is) there)
  where
    cs : ColumnList
    cs = item_columns (shape (at.0).items)

    by : (o : Option ℕ) → items_cell a.names g ≡ o → slice_get (rows_in (cell_value_or values (tab no_rows) o)) i ≡ Some r → IsItemOf a.names g r
    by None e found = absurd (none_got i r found)
    by (Some k) e found =
        let has = items_have a g k at.0 s e (at.1).there (at.1).kind in
        let fits : fits_in (values k) (tables cs) ≡ true = subst (λ (t : Shape). fits_in (values k) t ≡ true) has.2 (fit k has.0 has.1) in
        (at.0, at.1, row_got cs (rows_in (values k)) i r (rows_in_fit (values k) cs fits) found)
