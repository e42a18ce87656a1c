-- A session has one view, and a gallery one list of items.
use Rattle.std.proofs.Common.{◌≡◌, ℕ, suc, List, [], ◌∷◌, Bool, true, false, codes, max, take, drop, ◌-◌, Option, Some, None, refl, sym, subst, ap, ◌∙◌}
use Rattle.std.specs.List.{slice_get}
use Rattle.std.specs.Prelude.{if◌then◌else◌}
use Rattle.std.proofs.lemmas.Bool.{both_ways}
use Rattle.recalc.proofs.of_app_semantics.FreshAt.{fits_at}
use Rattle.recalc.specs.Values.{CellsFit}
use Rattle.recalc.specs.app_cells.declared.app.App.{App}
use Rattle.recalc.specs.app_cells.declared.app.CellInfo.{CellInfo}
use Rattle.recalc.specs.app_semantics.Fresh.{AreKnown}
use Rattle.recalc.specs.app_semantics.Needed.{itself}
use Rattle.recalc.specs.app_semantics.Holding.{HoldsFitting}
use Rattle.recalc.specs.app_semantics.Laws.{OneFreshAt}
use Rattle.recalc.specs.app_semantics.Present.{Present, items_of}
use Rattle.recalc.specs.app_semantics.Properties.{is_true}
use Rattle.recalc.specs.app_semantics.Sound.{IsSoundApp}
use Rattle.session_views.proofs.Looks.{Agrees, seen_moved, view_moved}
use Rattle.session_views.specs.Laws.{OneItems, OneView}
use Rattle.session_views.specs.Looking.{AreFreshFor, is_it, is_on_screen}
use Rattle.session_views.specs.Views.{AreEachGiven, AreItemsFrom, AreItemsUnless, AreRowItems, AreSeenItems, IsItemAt, IsItemControl, IsShown, IsShownControl, IsItemControlShown, IsView, ShowsFirstItems, fault_in, is_seen_at, is_top_level_shown, put_if_some}
use Rattle.fx_types.specs.TypeView.{shape}
use Rattle.fx_types.specs.Types.{Shape}
use Rattle.fx_types.specs.Values.{Data, blank, text, boolean}
use Rattle.fx_types.specs.declared.faults.Fault.{Fault}
use Rattle.fx_types.specs.declared.controls.Control.TheVariants as control
use Rattle.fx_types.specs.declared.controls.Control.{Control}
use Rattle.recalc.specs.fx_semantics.Around.{record_of}
use Rattle.recalc.specs.fx_semantics.Rows.{rows_in}
use Rattle.recalc.specs.fx_semantics.Unique.{OneValue}
use Rattle.fx_value.specs.Columns.{Row}
use Rattle.fx_value.specs.Fits.{fits_in}
use Rattle.fx_core.specs.declared.names.ControlName.{ControlName}
use Rattle.recalc.proofs.ForItems.{Ground, property_one}
use Rattle.view_text.specs.declared.views.ItemControl.{ItemControl}
use Rattle.view_text.specs.declared.views.Items.{Items}
use Rattle.view_text.specs.declared.views.Shown.{Shown}
use Rattle.view_text.specs.declared.views.View.{View}

-- ---- lists of what is given

abbrev IsSingle : {C A : Type 0} → (ℕ → C → Option A → Type 0) → Type 0
IsSingle {C} {A} P = (k : ℕ) (c : C) (o q : Option A) → P k c o → P k c q → o ≡ q

given_one : {C A : Type 0} (P : ℕ → C → Option A → Type 0) (k : ℕ) (cs : List C) (xs ys : List A) → IsSingle P → AreEachGiven P k cs xs → AreEachGiven P k cs ys → xs ≡ ys
given_one P k [] xs ys one h j = h ∙ sym j
given_one {C} {A} P k (c ∷ cs) xs ys one h j =
    h.4 ∙ ap (λ (o : Option A). put_if_some o h.1) (one k c h.0 j.0 h.2 j.2) ∙ ap (λ (rest : List A). put_if_some j.0 rest) (given_one P (suc k) cs h.1 j.1 one h.3 j.3) ∙ sym j.4

-- ---- items

control_one : (p : Present) (values : ℕ → Data) (item : Data) (k : ℕ) (c : ControlName) (s t : ItemControl) → Ground p values → IsItemControl p values item k c s → IsItemControl p values item k c t → s ≡ t
control_one p values item k c s t g h j =
    let words : h.words ≡ j.words = property_one p values item k (codes "Text") (text []) h.words j.words g h.are_words j.are_words in
    let shows : s.values ≡ t.values = h.shows ∙ ap (λ (d : Data). (codes "Text", d) ∷ []) words ∙ sym j.shows in
    let name : s.name ≡ t.name = h.name ∙ sym j.name in
    let kind : s.kind ≡ t.kind = h.kind ∙ sym j.kind in
    λ i. record { name = name i; kind = kind i; values = shows i }

pub for_one : (p : Present) (values : ℕ → Data) (gallery : ℕ) (item : Data) → Ground p values → IsSingle (IsItemControlShown p values gallery item)
for_one p values gallery item g k c None None h j = refl
for_one p values gallery item g k c (Some s) (Some t) h j = ap (λ (x : ItemControl). Some x) (control_one p values item k c s t g h.2 j.2)
for_one p values gallery item g k c None (Some t) h j =
    let v = h j.0 in
    let same : v.0 ≡ (j.1).0 = property_one p values item k (codes "Visible") (boolean true) v.0 (j.1).0 g v.1 (j.1).1 in
    absurd (both_ways (is_true v.0) v.2 (ap is_true same ∙ (j.1).2))
for_one p values gallery item g k c (Some s) None h j =
    let v = j h.0 in
    let same : v.0 ≡ (h.1).0 = property_one p values item k (codes "Visible") (boolean true) v.0 (h.1).0 g v.1 (h.1).1 in
    absurd (both_ways (is_true v.0) v.2 (ap is_true same ∙ (h.1).2))

item_one : (p : Present) (values : ℕ → Data) (gallery : ℕ) → Ground p values → IsSingle (IsItemAt p values gallery)
item_one p values gallery g k row None o h j = absurd h
item_one p values gallery g k row (Some s) None h j = absurd j
item_one p values gallery g k row (Some s) (Some t) h j =
    let at : s.at ≡ t.at = h.0 ∙ sym j.0 in
    let id : s.id ≡ t.id = h.1 ∙ sym j.1 in
    let shown : s.shown ≡ t.shown = given_one (IsItemControlShown p values gallery (record_of row)) 0 p.app.names.controls s.shown t.shown (for_one p values gallery (record_of row) g) h.2 j.2 in
    λ i. Some (record { at = at i; id = id i; shown = shown i })

row_items_one : (p : Present) (values : ℕ → Data) (gallery from : ℕ) (rows : List Row) (s t : Items) → Ground p values → AreRowItems p values gallery from rows s → AreRowItems p values gallery from rows t → s ≡ t
row_items_one p values gallery from rows s t g h j =
    let fault_is : s.fault ≡ t.fault = h.0 ∙ sym j.0 in
    let total : s.total ≡ t.total = h.1 ∙ sym j.1 in
    let list : s.list ≡ t.list = given_one (IsItemAt p values gallery) (max from 1) (take 100 (drop (max from 1 - 1) rows)) s.list t.list (item_one p values gallery g) h.2 j.2 in
    λ i. record { total = total i; fault = fault_is i; list = list i }

unless_one : (p : Present) (values : ℕ → Data) (gallery from : ℕ) (o : Option Fault) (rows : List Row) (s t : Items) → Ground p values → AreItemsUnless p values gallery from o rows s → AreItemsUnless p values gallery from o rows t → s ≡ t
unless_one p values gallery from None rows s t g h j = row_items_one p values gallery from rows s t g h j
unless_one p values gallery from (Some f) rows s t g h j =
    let fault_is : s.fault ≡ t.fault = h.0 ∙ sym j.0 in
    let total : s.total ≡ t.total = h.1 ∙ sym j.1 in
    let list : s.list ≡ t.list = h.2 ∙ sym j.2 in
    λ i. record { total = total i; fault = fault_is i; list = list i }

items_from_one : (p : Present) (values : ℕ → Data) (gallery from : ℕ) (s t : Items) → Ground p values → AreItemsFrom p values gallery from s → AreItemsFrom p values gallery from t → s ≡ t
items_from_one p values gallery from s t g h j =
    unless_one p values gallery from (fault_in (items_of p.app.names values gallery)) (rows_in (items_of p.app.names values gallery)) s t g h j

-- ---- the screen

first_one : (p : Present) (values : ℕ → Data) (k : ℕ) (kind : Control) (o q : Option Items) → Ground p values → ShowsFirstItems p values k kind o → ShowsFirstItems p values k kind q → o ≡ q
first_one p values k control.Gallery (Some s) (Some t) g h j = ap (λ (x : Items). Some x) (items_from_one p values k 1 s t g h j)
first_one p values k control.Gallery (Some s) None g h j = absurd j
first_one p values k control.Gallery None q g h j = absurd h
first_one p values k control.Label o q g h j = h ∙ sym j
first_one p values k control.Button o q g h j = h ∙ sym j
first_one p values k control.TextInput o q g h j = h ∙ sym j
first_one p values k control.Slider o q g h j = h ∙ sym j
first_one p values k control.Checkbox o q g h j = h ∙ sym j
first_one p values k control.DatePicker o q g h j = h ∙ sym j

shown_control_one : (p : Present) (values : ℕ → Data) (k : ℕ) (c : ControlName) (s t : Shown) → Ground p values → IsShownControl p values k c s → IsShownControl p values k c t → s ≡ t
shown_control_one p values k c s t g h j =
    let name : s.name ≡ t.name = h.name ∙ sym j.name in
    let kind : s.kind ≡ t.kind = h.kind ∙ sym j.kind in
    let shows : s.values ≡ t.values = h.shows ∙ sym j.shows in
    let items : s.items ≡ t.items = first_one p values k c.kind s.items t.items g h.items j.items in
    λ i. record { name = name i; kind = kind i; values = shows i; items = items i }

pub shown_one : (p : Present) (values : ℕ → Data) → Ground p values → IsSingle (IsShown p values)
shown_one p values g k c None None h j = refl
shown_one p values g k c None (Some t) h j = absurd (both_ways (is_top_level_shown p.app.names p.session values k c) h j.0)
shown_one p values g k c (Some s) None h j = absurd (both_ways (is_top_level_shown p.app.names p.session values k c) j h.0)
shown_one p values g k c (Some s) (Some t) h j = ap (λ (x : Shown). Some x) (shown_control_one p values k c s t g h.1 j.1)

same_name : (m n : List ℕ) (o : Option (List ℕ)) → o ≡ Some m → o ≡ Some n → m ≡ n
same_name m n o e f = cc

view_one : (p : Present) (values : ℕ → Data) (v w : View) → Ground p values → IsView p values v → IsView p values w → v ≡ w
view_one p values v w g h j =
    let screen : v.screen ≡ w.screen = same_name v.screen w.screen (slice_get p.app.names.screens p.session.screen) h.screen j.screen in
    let shown : v.shown ≡ w.shown = given_one (IsShown p values) 0 p.app.names.controls v.shown w.shown (shown_one p values g) h.shown j.shown in
    λ i. record { screen = screen i; shown = shown i }

-- ---- values that fit
-- a value, where it fits its cell, and blank where it doesn't
abbrev fitting : Option CellInfo → Data → Data
fitting (Some c) d = if fits_in d (shape c.ty) then d else blank
fitting None d = d

abbrev pub masked : App → (ℕ → Data) → ℕ → Data
masked a values k = fitting (slice_get a.cells k) (values k)

fits_so : (d : Data) (t : Shape) → fits_in (if fits_in d t then d else blank) t ≡ true
fits_so d t = by (fits_in d t) refl
  where
    by : (b : Bool) → fits_in d t ≡ b → fits_in (if b then d else blank) t ≡ true
    by true e = e
    by false e = refl

pub masked_fits : (a : App) (values : ℕ → Data) → CellsFit a (masked a values)
masked_fits a values k c there = subst (λ o. fits_in (fitting o (values k)) (shape c.ty) ≡ true) (sym there) (fits_so (values k) (shape c.ty))

masked_same : (a : App) (values : ℕ → Data) (k : ℕ) (c : CellInfo) → slice_get a.cells k ≡ Some c → fits_in (values k) (shape c.ty) ≡ true → values k ≡ masked a values k
masked_same a values k c there fit = sym (ap (λ o. fitting o (values k)) there ∙ ap (λ (b : Bool). if b then values k else blank) fit)

pub ground : OneValue → (p : Present) (values : ℕ → Data) → IsSoundApp p.app → HoldsFitting p.app.names p.session → AreKnown p.app p.tables → CellsFit p.app values → Ground p values
ground one p values s n known fit = record { one = one; sound = s; holds = n; known = known; fits = fit }

-- fresh values fit where they are looked at, and are the only ones there
pub as_masked : (p : Present) (of : ℕ → Bool) (values : ℕ → Data) → IsSoundApp p.app → HoldsFitting p.app.names p.session → AreKnown p.app p.tables → AreFreshFor p values of → Agrees p.app of values (masked p.app values)
as_masked p of values s n known fresh = λ k c looked there. masked_same p.app values k c there (fits_at p values k s n known.fit (fresh k looked) k c there (itself k))

pub as_other : OneFreshAt → (p : Present) (of : ℕ → Bool) (values others : ℕ → Data) → IsSoundApp p.app → HoldsFitting p.app.names p.session → AreKnown p.app p.tables → AreFreshFor p values of → AreFreshFor p others of → Agrees p.app of others (masked p.app values)
as_other once p of values others s n known fresh also = λ k c looked there. once p others values k c s n known there (also k looked) (fresh k looked) ∙ as_masked p of values s n known fresh k c looked there

-- ONE VIEW
pub one_view : OneValue → OneFreshAt → OneView
one_view one once p v w s n known h j =
    let of : ℕ → Bool = is_on_screen p.app.names p.session.screen in
    view_one p (masked p.app h.values) v w (ground one p (masked p.app h.values) s n known (masked_fits p.app h.values))
    (view_moved p h.values (masked p.app h.values) v s (as_masked p of h.values s n known h.fresh) h.shows)
    (view_moved p j.values (masked p.app h.values) w s (as_other once p of h.values j.values s n known h.fresh j.fresh) j.shows)

seen_one : (p : Present) (values : ℕ → Data) (gallery from : ℕ) (o q : Option Items) → Ground p values → AreSeenItems p values gallery from o → AreSeenItems p values gallery from q → o ≡ q
seen_one p values gallery from None None g h j = refl
seen_one p values gallery from None (Some t) g h j = absurd (both_ways (is_seen_at p.app.names p.session values gallery) h j.0)
seen_one p values gallery from (Some s) None g h j = absurd (both_ways (is_seen_at p.app.names p.session values gallery) j h.0)
seen_one p values gallery from (Some s) (Some t) g h j = ap (λ (x : Items). Some x) (items_from_one p values gallery from s t g h.1 j.1)

-- ONE LIST OF ITEMS
pub one_items : OneValue → OneFreshAt → OneItems
one_items one once p gallery from o q s n known h j =
    seen_one p (masked p.app h.values) gallery from o q (ground one p (masked p.app h.values) s n known (masked_fits p.app h.values))
    (seen_moved p h.values (masked p.app h.values) gallery from o s (as_masked p (is_it gallery) h.values s n known h.fresh) h.are)
    (seen_moved p j.values (masked p.app h.values) gallery from q s (as_other once p (is_it gallery) h.values j.values s n known h.fresh j.fresh) j.are)
