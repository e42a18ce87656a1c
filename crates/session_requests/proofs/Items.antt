-- What the checks of events let through: a control, with an item of its gallery.
use Rattle.std.proofs.Common.{◌≡◌, ℕ, zero, suc, ◌<◌, Bool, true, false, List, [], ◌∷◌, Option, Some, None, Ok, Err, refl, sym, subst, length, if◌then◌else◌}
use Rattle.std.specs.Prelude.{IfSome, option_map, slice_get}
use Rattle.std.proofs.lemmas.List.Elements.{All-get_or}
use Rattle.std.proofs.lemmas.Option.{get_or_from_slice_get, slice_get_within}
use Rattle.recalc.specs.app_cells.Spots.{item_or}
use Rattle.recalc.specs.app_cells.declared.app.App.{App}
use Rattle.recalc.proofs.of_app_semantics.Given.{items_fit}
use Rattle.recalc.specs.app_semantics.Chosen.{item_id, row_at_position}
use Rattle.recalc.specs.app_semantics.Present.{items_of}
use Rattle.recalc.specs.app_semantics.Sound.{IsSoundApp}
use Rattle.fx_types.specs.TypeView.{shape}
use Rattle.fx_types.specs.Types.{ColumnList}
use Rattle.fx_types.specs.Values.{Data}
use Rattle.fx_types.specs.declared.controls.Control.TheVariants as control
use Rattle.recalc.proofs.of_fx_semantics.Tables.{RowsFit, rows_in_fit}
use Rattle.recalc.specs.fx_semantics.Around.{record_of}
use Rattle.recalc.specs.fx_semantics.Rows.{rows_in}
use Rattle.recalc.specs.fx_semantics.Sound.{IsItemFit}
use Rattle.fx_tables.proofs.FitRows.{RowFits}
use Rattle.fx_value.specs.Columns.{Row}
use Rattle.fx_core.specs.Lawful.{IsGallery, IsLawful, IsLawfulControl, IsLawfulGallery}
use Rattle.fx_core.specs.SourceTypes.{item_columns, item_type}
use Rattle.fx_core.specs.declared.names.ControlName.{ControlName}
use Rattle.fx_core.specs.declared.names.Names.{Names}
use Rattle.fx_typing.specs.Typing.{item_context}
use Rattle.recalc.specs.Values.{CellsFit}
use Rattle.session_state.specs.Sessions.{SessionState}
use Rattle.session_requests.specs.Shown.{control_number, is_shown_or_in_shown_gallery}
use Rattle.session_requests.specs.Targets.{IsItemRow, IsTarget, event_at, event_named, event_target, event_gallery, has_event, is_gallery, row_moved, or_refused, same_id, unless_moved, with_item, target_row}
use Rattle.session_requests.specs.declared.event.Event.{Event}
use Rattle.session_requests.specs.declared.event.Place.{Place}
use Rattle.session_requests.specs.declared.target.Item.{Item}
use Rattle.session_requests.specs.declared.target.Target.{Target}
use Rattle.session_requests.proofs.Judging.{or_ok}

-- ---- what is let through

abbrev without_item : ℕ → Target
without_item k = record { control = k; item = None }

abbrev at_row : ℕ → ℕ → ℕ → Row → Target
at_row k g at r = record { control = k; item = Some (record { gallery = g; at = at; id = item_id r }) }

moved_ok : (given : Option (Option ℕ)) (id : Option ℕ) (it t : Target) → unless_moved given id it ≡ Ok t → it ≡ t
moved_ok None id it t e = cc
moved_ok (Some g) id it t e = by (same_id g id) e
  where
    by : (b : Bool) → (if b then Ok it else Err (row_moved id)) ≡ Ok t → it ≡ t
    by true h = cc
    by false h = absurd cc

pub row_ok : (k g : ℕ) (p : Place) (o : Option Row) (t : Target) → target_row k g p o ≡ Ok t → (r : Row) × (o ≡ Some r) × (at_row k g p.at r ≡ t)
row_ok k g p None t e = absurd cc
row_ok k g p (Some r) t e = (r, refl, moved_ok p.id (item_id r) (at_row k g p.at r) t e)

item_ok : (n : Names) (values : ℕ → Data) (k : ℕ) (c : ControlName) (given : Option Place) (gallery : Option ℕ) (t : Target)
    → event_gallery k c ≡ gallery → slice_get n.controls k ≡ Some c → with_item n values k given gallery ≡ Ok t → IsTarget n values t
item_ok n values k c None None t own there e = let same : without_item k ≡ t = cc in subst (IsTarget n values) same (record { control = c; there = there; item = tt; alone = λ e. own })
item_ok n values k c (Some p) (Some g) t own there e =
    let row = row_ok k g p (row_at_position p.at (rows_in (items_of n values g))) t e in
    subst (IsTarget n values) row.2 (record { control = c; there = there; item = record { gallery_is = own; row = row.0; there = row.1 }; alone = λ e. absurd cc })
item_ok n values k c None (Some g) t own there e = absurd cc
item_ok n values k c (Some p) None t own there e = absurd cc

at_ok : (n : Names) (s : SessionState) (values : ℕ → Data) (e : Event) (k : ℕ) (o : Option ControlName) (t : Target) → slice_get n.controls k ≡ o → event_at n s values e k o ≡ Ok t → IsTarget n values t
at_ok n s values e k None t there h = absurd cc
at_ok n s values e k (Some c) t there h =
    let rest = with_item n values k e.item (event_gallery k c) in
    let a = or_ok Target (has_event e.event c.kind) 16 (or_refused (is_shown_or_in_shown_gallery n s values k c) 17 rest) t h in
    let b = or_ok Target (is_shown_or_in_shown_gallery n s values k c) 17 rest t a.1 in
    item_ok n values k c e.item (event_gallery k c) t refl there b.1

named_ok : (n : Names) (s : SessionState) (values : ℕ → Data) (e : Event) (o : Option ℕ) (t : Target) → event_named n s values e o ≡ Ok t → IsTarget n values t
named_ok n s values e None t h = absurd cc
named_ok n s values e (Some k) t h = at_ok n s values e k (slice_get n.controls k) t refl h

-- THE target of an event is a control, with an item of its gallery
pub target_is : (n : Names) (s : SessionState) (values : ℕ → Data) (e : Event) (t : Target) → event_target n s values e ≡ Ok t → IsTarget n values t
target_is n s values e t h = named_ok n s values e (control_number e.control n) t h

-- ---- galleries

-- a gallery is one of the controls
gallery_there : (cs : List ControlName) (g : ℕ) → IsGallery (slice_get cs g) → g < length cs
gallery_there cs g h = by (slice_get cs g) refl h
  where
    by : (o : Option ControlName) → slice_get cs g ≡ o → IsGallery o → g < length cs
    by (Some c) e q = slice_get_within cs g c e
    by None e q = absurd q

pub control_lawful : (n : Names) (k : ℕ) (c : ControlName) → IsLawful n → slice_get n.controls k ≡ Some c → IsLawfulControl n c
control_lawful n k c lawful there =
    subst (IsLawfulControl n) (get_or_from_slice_get n.controls k c c there) (All-get_or (IsLawfulControl n) n.controls k c (slice_get_within n.controls k c there) lawful.controls.1)

own_within : (n : Names) (k : ℕ) (c : ControlName) (o : Option ℕ) (g : ℕ) → slice_get n.controls k ≡ Some c → IsLawfulGallery n.controls o → item_or o (is_gallery c.kind) k ≡ Some g → g < length n.controls
own_within n k c (Some h) g there lawful e = let same : h ≡ g = cc in subst (λ j. j < length n.controls) same (gallery_there n.controls h lawful)
own_within n k c None g there lawful e = by (is_gallery c.kind) e
  where
    by : (b : Bool) → (if b then Some k else None) ≡ Some g → g < length n.controls
    by true q = let same : k ≡ g = cc in subst (λ j. j < length n.controls) same (slice_get_within n.controls k c there)
    by false q = absurd cc

-- THE gallery of an item is one of the controls
pub item_within : (n : Names) (values : ℕ → Data) (t : Target) → IsLawful n → IsTarget n values t → IfSome t.item (λ (i : Item). i.gallery < length n.controls)
item_within n values t lawful h = by t.item h.item
  where
    by : (o : Option Item) → IfSome o (IsItemRow n values (event_gallery t.control h.control)) → IfSome o (λ (i : Item). i.gallery < length n.controls)
    by None q = tt
    by (Some i) q = own_within n t.control h.control (h.control).gallery i.gallery h.there (control_lawful n t.control h.control lawful h.there).1 q.gallery_is

-- ---- what formulas of a template see

got_fits : (cs : ColumnList) (rows : List Row) (i : ℕ) (r : Row) → RowsFit cs rows → slice_get rows i ≡ Some r → RowFits cs r
got_fits cs [] i r h e = absurd cc
got_fits cs (x ∷ xs) zero r h e = let same : x ≡ r = cc in subst (RowFits cs) same h.0
got_fits cs (x ∷ xs) (suc i) r h e = got_fits cs xs i r h.1 e

placed_fits : (cs : ColumnList) (rows : List Row) (at : ℕ) (r : Row) → RowsFit cs rows → row_at_position at rows ≡ Some r → RowFits cs r
placed_fits cs rows zero r h e = absurd cc
placed_fits cs rows (suc i) r h e = got_fits cs rows i r h e

-- the row of an item fits what a template's formulas see of it
pub row_fits : (a : App) (values : ℕ → Data) (g at : ℕ) (r : Row) → IsSoundApp a → CellsFit a values → IsGallery (slice_get a.names.controls g) → row_at_position at (rows_in (items_of a.names values g)) ≡ Some r
    → IsItemFit (Some (record_of r)) (item_context a.names (Some g))
row_fits a values g at r sound fits gallery there = by (slice_get a.names.controls g) refl gallery
  where
    by : (o : Option ControlName) → slice_get a.names.controls g ≡ o → IsGallery o → IsItemFit (Some (record_of r)) (option_map item_type (slice_get a.names.controls g))
    by None e q = absurd q
    by (Some c) e q =
        let cs : ColumnList = item_columns (shape c.items) in
        let items = items_fit a values g c sound (λ d x led cell. fits d x cell) e q in
        subst (λ (o : Option ControlName). IsItemFit (Some (record_of r)) (option_map item_type o)) (sym e)
        (placed_fits cs (rows_in (items_of a.names values g)) at r (rows_in_fit (items_of a.names values g) cs items) there)

-- a gallery that a control stands in is one
pub is_one : (a : App) (k g : ℕ) (c : ControlName) → IsSoundApp a → slice_get a.names.controls k ≡ Some c → c.gallery ≡ Some g → IsGallery (slice_get a.names.controls g)
is_one a k g c sound there own = subst (IsLawfulGallery a.names.controls) own (control_lawful a.names k c sound.names there).1
