-- What controls show hangs on no other cells than those that are looked at.
use Rattle.std.proofs.Common.{◌≡◌, ◌⊎◌, ℕ, zero, suc, ◌+◌, ◌<◌, List, [], ◌∷◌, length, get_or, take, Bool, true, false, Option, Some, None, refl, sym, subst, ap, ◌∙◌, arith, inl, inr, max, drop, ◌-◌, pos}
use Rattle.std.proofs.lemmas.List.{get_or_default}
use Rattle.std.proofs.lemmas.Option.{slice_get_within}
use Rattle.std.specs.List.{Contains, slice_get}
use Rattle.std.specs.Prelude.{◌&&◌, ◌||◌, ◌==◌, bytes_eq, codes, is_none, is_some, not, option_and_then, option_map, unwrap_or, if◌then◌else◌}
use Rattle.std.proofs.lemmas.Bool.{or_from}
use Rattle.recalc.proofs.ForItems.{template_cell, visible_for}
use Rattle.recalc.proofs.Kept.{gives_agrees, where_map}
use Rattle.recalc.proofs.of_app_semantics.CellTypes.{found, property_found, then_some, type_by}
use Rattle.recalc.proofs.of_app_semantics.Freshness.{got, read_behind, taken}
use Rattle.recalc.proofs.of_app_semantics.Ordered.{earlier, leaning_edge}
use Rattle.recalc.proofs.of_fx_semantics.Wider.{stays}
use Rattle.recalc.specs.Templates.{IsTemplateProperty}
use Rattle.recalc.specs.app_cells.Leaning.{LeansOn, cell_of_property, default_cell, default_name, edges_of, items_cell}
use Rattle.recalc.specs.app_cells.declared.app.App.{App}
use Rattle.recalc.specs.app_cells.declared.app.CellInfo.{CellInfo}
use Rattle.recalc.specs.app_semantics.Fresh.{CanRead, IsValueOf, is_told, formula_context}
use Rattle.recalc.specs.app_semantics.Present.{SourceGives, Present, given_or, input_of, items_of, unset_value, cell_value_or}
use Rattle.recalc.specs.app_semantics.Properties.{IsForItem, IsPropertyForItem, is_true, is_visible, property_value}
use Rattle.recalc.specs.app_semantics.Sound.{IsCellOf, IsSoundApp}
use Rattle.recalc.specs.fx_semantics.Around.{record_of}
use Rattle.recalc.specs.fx_semantics.Rows.{rows_in}
use Rattle.session_views.proofs.Galleries.{has_it, is_in_gallery, text_for}
use Rattle.session_views.specs.Looking.{IsLookedAt, IsLeanedOn, is_in_template, is_it, is_on_screen, is_one}
use Rattle.session_views.specs.Views.{AreEachGiven, AreItemsFrom, AreItemsUnless, AreRowItems, AreSeenItems, IsItemAt, IsItemControl, IsShown, IsShownControl, IsItemControlShown, IsView, ShowsFirstItems, displayed, fault_in, is_in, is_seen, is_seen_at, is_top_level_shown, put_if_some}
use Rattle.fx_types.specs.TypeView.{shape}
use Rattle.fx_types.specs.Types.{Shape, tables}
use Rattle.fx_types.specs.Values.{Data, boolean, no_rows, number, tab, text}
use Rattle.fx_types.specs.declared.controls.Control.TheVariants as control
use Rattle.fx_types.specs.declared.controls.Control.{Control}
use Rattle.fx_types.specs.declared.faults.Fault.{Fault}
use Rattle.fx_core.specs.Controls.{has_property, is_behaviour, is_items, property_type}
use Rattle.fx_core.specs.SourceTypes.{item_columns}
use Rattle.fx_core.specs.declared.names.ControlName.{ControlName}
use Rattle.fx_core.specs.declared.names.Names.{Names}
use Rattle.fx_core.specs.declared.sources.Source.TheVariants as source
use Rattle.fx_value.specs.Columns.{Row}
use Rattle.session_state.specs.Sessions.{SessionState, stored_value}
use Rattle.view_text.specs.declared.views.ItemControl.{ItemControl}
use Rattle.view_text.specs.declared.views.ItemView.{ItemView}
use Rattle.view_text.specs.declared.views.Items.{Items}
use Rattle.view_text.specs.declared.views.Shown.{Shown}
use Rattle.view_text.specs.declared.views.View.{View}

-- the cells that are looked at for some controls have the same values
abbrev pub Agrees : App → (ℕ → Bool) → (ℕ → Data) → (ℕ → Data) → Type 0
Agrees a of values others = (k : ℕ) (i : CellInfo) → IsLookedAt a of k → slice_get a.cells k ≡ Some i → values k ≡ others k

-- ---- cells of properties

-- a name is none of a formula that acts
abbrev IsQuiet : List ℕ → Type 0
IsQuiet name = (kind : Control) → is_behaviour kind name ≡ false

quiet : (name : List ℕ) → bytes_eq name (codes "OnSelect") ≡ false → bytes_eq name (codes "OnChange") ≡ false → bytes_eq name (codes "OnCheck") ≡ false → bytes_eq name (codes "OnUncheck") ≡ false → IsQuiet name
quiet name a b c d control.Label = a
quiet name a b c d control.Button = a
quiet name a b c d control.Gallery = a
quiet name a b c d control.TextInput = b
quiet name a b c d control.Slider = b
quiet name a b c d control.DatePicker = b
quiet name a b c d control.Checkbox = or_from (bytes_eq name (codes "OnCheck")) (bytes_eq name (codes "OnUncheck")) c d

text_quiet : IsQuiet (codes "Text")
text_quiet = quiet (codes "Text") refl refl refl refl

visible_quiet : IsQuiet (codes "Visible")
visible_quiet = quiet (codes "Visible") refl refl refl refl

items_quiet : IsQuiet (codes "Items")
items_quiet = quiet (codes "Items") refl refl refl refl

max_quiet : IsQuiet (codes "Max")
max_quiet = quiet (codes "Max") refl refl refl refl

min_quiet : IsQuiet (codes "Min")
min_quiet = quiet (codes "Min") refl refl refl refl

given_quiet : IsQuiet (codes "Default")
given_quiet = quiet (codes "Default") refl refl refl refl

date_quiet : IsQuiet (codes "DefaultDate")
date_quiet = quiet (codes "DefaultDate") refl refl refl refl

default_quiet : (kind : Control) (name : List ℕ) → default_name kind ≡ Some name → IsQuiet name
default_quiet control.TextInput name e = let same : codes "Default" ≡ name = cc in subst IsQuiet same given_quiet
default_quiet control.Slider name e = let same : codes "Default" ≡ name = cc in subst IsQuiet same given_quiet
default_quiet control.Checkbox name e = let same : codes "Default" ≡ name = cc in subst IsQuiet same given_quiet
default_quiet control.DatePicker name e = let same : codes "DefaultDate" ≡ name = cc in subst IsQuiet same date_quiet
default_quiet control.Label name e = absurd cc
default_quiet control.Button name e = absurd cc
default_quiet control.Gallery name e = absurd cc

-- a property that doesn't act has a type
typed : (items : Shape) (kind : Control) (name : List ℕ) → has_property kind name ≡ true → is_behaviour kind name ≡ false → (t : Shape) × (type_by items kind name ≡ Some t)
typed items kind name has calm = by (property_type kind name) (is_behaviour kind name) (is_items kind name) calm has
  where
    by : (o : Option Shape) (acts rows : Bool) → acts ≡ false → (is_some o || acts || rows) ≡ true → (t : Shape) × ((if rows then Some (tables (item_columns items)) else o) ≡ Some t)
    by o acts true e h = (tables (item_columns items), refl)
    by (Some t) acts false e h = (t, refl)
    by None true false e h = absurd cc
    by None false false e h = absurd cc

-- the formula of such a property is there
cell_there : (a : App) (k d : ℕ) (name : List ℕ) (c : ControlName) → IsSoundApp a → IsQuiet name → slice_get a.names.controls k ≡ Some c → cell_of_property a.names k name ≡ Some d → (i : CellInfo) × (slice_get a.cells d ≡ Some i)
cell_there a k d name c s calm there e =
    let type = typed (shape c.items) c.kind name (has_it a k d name c s e there) (calm c.kind) in
    let cell = property_found a k name d c type.0 s e there type.1 in
    (cell.cell, cell.there)

-- and is looked at for its control
own_looked : (a : App) (of : ℕ → Bool) (k d : ℕ) (name : List ℕ) → of k ≡ true → cell_of_property a.names k name ≡ Some d → IsLookedAt a of d
own_looked a of k d name h e =
    let at = found a.names.properties k name d e in
    inl (at.place, at.property, at.there, (subst (λ n. of n ≡ true) (sym at.control) h, at.cell))

value_same : (values others : ℕ → Data) (u : Data) (o : Option ℕ) → ((d : ℕ) → o ≡ Some d → values d ≡ others d) → cell_value_or values u o ≡ cell_value_or others u o
value_same values others u (Some d) h = h d refl
value_same values others u None h = refl

cell_same : (a : App) (of : ℕ → Bool) (values others : ℕ → Data) (k : ℕ) (c : ControlName) (name : List ℕ) → IsSoundApp a → Agrees a of values others → of k ≡ true → slice_get a.names.controls k ≡ Some c → IsQuiet name →
    (d : ℕ) → cell_of_property a.names k name ≡ Some d → values d ≡ others d
cell_same a of values others k c name s agree own there calm d e =
    let cell = cell_there a k d name c s calm there e in
    agree d cell.0 (own_looked a of k d name own e) cell.1

property_same : (a : App) (of : ℕ → Bool) (values others : ℕ → Data) (k : ℕ) (c : ControlName) (name : List ℕ) (u : Data) → IsSoundApp a → Agrees a of values others → of k ≡ true → slice_get a.names.controls k ≡ Some c → IsQuiet name →
    property_value a.names values k name u ≡ property_value a.names others k name u
property_same a of values others k c name u s agree own there calm = value_same values others u (cell_of_property a.names k name) (cell_same a of values others k c name s agree own there calm)

input_same : (a : App) (of : ℕ → Bool) (values others : ℕ → Data) (r : SessionState) (k : ℕ) (c : ControlName) → IsSoundApp a → Agrees a of values others → of k ≡ true → slice_get a.names.controls k ≡ Some c → input_of a.names r values k ≡ input_of a.names r others k
input_same a of values others r k c s agree own there =
    ap (given_or (stored_value r (source.Input k))) (value_same values others (unset_value (slice_get a.names.controls k)) (default_cell a.names k) (λ d e.
    let at = then_some (λ (x : ControlName). option_and_then (cell_of_property a.names k) (default_name x.kind)) (slice_get a.names.controls k) d e in
    let named = then_some (cell_of_property a.names k) (default_name (at.0).kind) d at.2 in
    cell_same a of values others k c named.0 s agree own there (default_quiet (at.0).kind named.0 named.1) d named.2))

pub items_same : (a : App) (of : ℕ → Bool) (values others : ℕ → Data) (k : ℕ) (c : ControlName) → IsSoundApp a → Agrees a of values others → of k ≡ true → slice_get a.names.controls k ≡ Some c → items_of a.names values k ≡ items_of a.names others k
items_same a of values others k c s agree own there = value_same values others (tab no_rows) (items_cell a.names k) (cell_same a of values others k c (codes "Items") s agree own there items_quiet)

visible_same : (a : App) (of : ℕ → Bool) (values others : ℕ → Data) (k : ℕ) (c : ControlName) → IsSoundApp a → Agrees a of values others → of k ≡ true → slice_get a.names.controls k ≡ Some c → is_visible a.names values k ≡ is_visible a.names others k
visible_same a of values others k c s agree own there = ap is_true (property_same a of values others k c (codes "Visible") (boolean true) s agree own there visible_quiet)

-- ---- what is displayed
displayed_same : (a : App) (of : ℕ → Bool) (values others : ℕ → Data) (r : SessionState) (k : ℕ) (c : ControlName) (kind : Control) → IsSoundApp a → Agrees a of values others → of k ≡ true → slice_get a.names.controls k ≡ Some c → displayed a.names r values k kind ≡ displayed a.names r others k kind
displayed_same a of values others r k c control.Label s agree own there = ap (λ (d : Data). (codes "Text", d) ∷ []) (property_same a of values others k c (codes "Text") (text []) s agree own there text_quiet)
displayed_same a of values others r k c control.Button s agree own there = ap (λ (d : Data). (codes "Text", d) ∷ []) (property_same a of values others k c (codes "Text") (text []) s agree own there text_quiet)
displayed_same a of values others r k c control.TextInput s agree own there = ap (λ (d : Data). (codes "Text", d) ∷ []) (input_same a of values others r k c s agree own there)
displayed_same a of values others r k c control.DatePicker s agree own there = ap (λ (d : Data). (codes "SelectedDate", d) ∷ []) (input_same a of values others r k c s agree own there)
displayed_same a of values others r k c control.Gallery s agree own there = refl
displayed_same a of values others r k c control.Checkbox s agree own there =
    ap (λ (d : Data). (codes "Text", d) ∷ (codes "Value", input_of a.names r values k) ∷ []) (property_same a of values others k c (codes "Text") (text []) s agree own there text_quiet)
    ∙ ap (λ (d : Data). (codes "Text", property_value a.names others k (codes "Text") (text [])) ∷ (codes "Value", d) ∷ []) (input_same a of values others r k c s agree own there)
displayed_same a of values others r k c control.Slider s agree own there =
    ap (λ (d : Data). (codes "Max", d) ∷ (codes "Min", property_value a.names values k (codes "Min") (number (pos 0))) ∷ (codes "Value", input_of a.names r values k) ∷ []) (property_same a of values others k c (codes "Max") (number (pos 1000000)) s agree own there max_quiet)
    ∙ ap (λ (d : Data). (codes "Max", property_value a.names others k (codes "Max") (number (pos 1000000))) ∷ (codes "Min", d) ∷ (codes "Value", input_of a.names r values k) ∷ []) (property_same a of values others k c (codes "Min") (number (pos 0)) s agree own there min_quiet)
    ∙ ap (λ (d : Data). (codes "Max", property_value a.names others k (codes "Max") (number (pos 1000000))) ∷ (codes "Min", property_value a.names others k (codes "Min") (number (pos 0))) ∷ (codes "Value", d) ∷ []) (input_same a of values others r k c s agree own there)

-- ---- lists of what is given
pub given_moved : {C A : Type 0} (P Q : ℕ → C → Option A → Type 0) (k : ℕ) (cs : List C) (xs : List A) → ((i n : ℕ) (c : C) (o : Option A) → n ≡ k + i → slice_get cs i ≡ Some c → P n c o → Q n c o) → AreEachGiven P k cs xs → AreEachGiven Q k cs xs
given_moved P Q k [] xs move h = h
given_moved {C} {A} P Q k (c ∷ cs) xs move h =
    (h.0, h.1, move 0 k c h.0 (omega arith) refl h.2, given_moved P Q (suc k) cs h.1 (λ i n d o e there. move (suc i) n d o (omega (arith, e)) there) h.3, h.4)

-- ---- formulas of templates
-- what a formula leans on is there
leaned_there : (a : App) (d e : ℕ) (c : CellInfo) → IsSoundApp a → slice_get a.cells d ≡ Some c → LeansOn a.names c e → (i : CellInfo) × (slice_get a.cells e ≡ Some i)
leaned_there a d e c s there leans =
    let edge : Contains (edges_of a.names a.cells) (d, e) = leaning_edge a.names a.cells d c e there leans in
    let at : Contains a.order d = (s.order.all d).1 (slice_get_within a.cells d c there) in
    let here : get_or a.order at.0 0 ≡ d = get_or_default a.order at.0 0 d at.1 ∙ at.2 in
    let b = earlier a.order at.0 e (s.order.behind at.0 e at.1 (subst (λ m. Contains (edges_of a.names a.cells) (m, e)) (sym here) edge)) in
    got a.cells e ((s.order.all e).0 (b.0, b.2, sym (get_or_default a.order b.0 0 e b.2) ∙ b.3))

both : (a b : Bool) → a ≡ false → b ≡ true → (not a && b) ≡ true
both true b e f = absurd cc
both false b e f = f

pub under : (of : ℕ → Bool) (c : CellInfo) (g : ℕ) → of g ≡ true → c.cell.acts ≡ false → c.cell.item ≡ Some g → is_in_template of c ≡ true
under of c g h calm item = both c.cell.acts (is_one of c.cell.item) calm (ap (is_one of) item ∙ h)

-- its value hangs on the cells on which it leans
value_moved : (p : Present) (values others : ℕ → Data) (item : Option Data) (c : CellInfo) (v : Data) → ((d : ℕ) → LeansOn p.app.names c d → values d ≡ others d) → IsValueOf p values item c v → IsValueOf p others item c v
value_moved p values others item c v h x =
    where_map _ (is_told p.tables c.reads)
    (stays (λ r d. CanRead c.reads r × SourceGives p others r d) (taken p c) (formula_context p values c.reads item) v
    (λ r d g. (g.0, gives_agrees p values others r d (λ e q. h e (r, read_behind p.app.names c.reads r e g.0 q, q)) g.1))) x

for_item_moved : (p : Present) (of : ℕ → Bool) (values others : ℕ → Data) (item unwritten : Data) (g : ℕ) (o : Option ℕ) (v : Data) → IsSoundApp p.app → Agrees p.app of values others → of g ≡ true → IsTemplateProperty p.app g o →
    IsForItem p values item unwritten o v → IsForItem p others item unwritten o v
for_item_moved p of values others item unwritten g None v s agree own template h = h
for_item_moved p of values others item unwritten g (Some k) v s agree own template h =
    let cell = template_cell p.app g k h.0 template h.1 in (
      h.0,
      h.1,
      value_moved p values others (Some item) h.0 v (λ d leans.
          let below = leaned_there p.app k d h.0 s h.1 leans in
          agree d below.0 (inr (k, h.0, h.1, (under of h.0 g own cell.0 cell.1, leans))) below.1) h.2,
    )

-- ---- items
control_moved : (p : Present) (of : ℕ → Bool) (values others : ℕ → Data) (g : ℕ) (item : Data) (k : ℕ) (c : ControlName) (s : ItemControl) → IsSoundApp p.app → Agrees p.app of values others → of g ≡ true → slice_get p.app.names.controls k ≡ Some c → is_in g c.gallery ≡ true →
    IsItemControl p values item k c s → IsItemControl p others item k c s
control_moved p of values others g item k c s sound agree own there within h = record {
  name = h.name;
  kind = h.kind;
  words = h.words;
  are_words = for_item_moved p of values others item (text []) g (cell_of_property p.app.names k (codes "Text")) h.words sound agree own (text_for p.app g k c sound there within) h.are_words;
  shows = h.shows;
}

pub for_moved : (p : Present) (of : ℕ → Bool) (values others : ℕ → Data) (g : ℕ) (item : Data) (k : ℕ) (c : ControlName) (o : Option ItemControl) → IsSoundApp p.app → Agrees p.app of values others → of g ≡ true → slice_get p.app.names.controls k ≡ Some c →
    IsItemControlShown p values g item k c o → IsItemControlShown p others g item k c o
for_moved p of values others g item k c None s agree own there h = λ within.
    let v = h within in
    (v.0, for_item_moved p of values others item (boolean true) g (cell_of_property p.app.names k (codes "Visible")) v.0 s agree own (visible_for p.app g k s (c, there, is_in_gallery g c.gallery within)) v.1, v.2)
for_moved p of values others g item k c (Some x) s agree own there h = (
  h.0,
  ((h.1).0, for_item_moved p of values others item (boolean true) g (cell_of_property p.app.names k (codes "Visible")) (h.1).0 s agree own (visible_for p.app g k s (c, there, is_in_gallery g c.gallery h.0)) (h.1).1, (h.1).2),
  control_moved p of values others g item k c x s agree own there h.0 h.2,
)

-- the control at a place from the first on
pub at : {C : Type 0} (cs : List C) (i n : ℕ) (c : C) → n ≡ 0 + i → slice_get cs i ≡ Some c → slice_get cs n ≡ Some c
at {C} cs i n c e there = let same : i ≡ n = omega (arith, e) in subst (λ m. slice_get cs m ≡ Some c) same there

item_moved : (p : Present) (of : ℕ → Bool) (values others : ℕ → Data) (g n : ℕ) (row : Row) (o : Option ItemView) → IsSoundApp p.app → Agrees p.app of values others → of g ≡ true → IsItemAt p values g n row o → IsItemAt p others g n row o
item_moved p of values others g n row None s agree own h = h
item_moved p of values others g n row (Some x) s agree own h = (
  h.0,
  h.1,
  given_moved (IsItemControlShown p values g (record_of row)) (IsItemControlShown p others g (record_of row)) 0 p.app.names.controls x.shown
      (λ i m c o e there. for_moved p of values others g (record_of row) m c o s agree own (at p.app.names.controls i m c e there)) h.2,
)

unless_moved : (p : Present) (of : ℕ → Bool) (values others : ℕ → Data) (g from : ℕ) (o : Option Fault) (rows : List Row) (x : Items) → IsSoundApp p.app → Agrees p.app of values others → of g ≡ true → AreItemsUnless p values g from o rows x → AreItemsUnless p others g from o rows x
unless_moved p of values others g from (Some f) rows x s agree own h = h
unless_moved p of values others g from None rows x s agree own h =
    (h.0, h.1, given_moved (IsItemAt p values g) (IsItemAt p others g) (max from 1) (take 100 (drop (max from 1 - 1) rows)) x.list (λ i m row o e there. item_moved p of values others g m row o s agree own) h.2)

items_moved : (p : Present) (of : ℕ → Bool) (values others : ℕ → Data) (g from : ℕ) (c : ControlName) (x : Items) → IsSoundApp p.app → Agrees p.app of values others → of g ≡ true → slice_get p.app.names.controls g ≡ Some c → AreItemsFrom p values g from x → AreItemsFrom p others g from x
items_moved p of values others g from c x s agree own there h =
    unless_moved p of values others g from (fault_in (items_of p.app.names others g)) (rows_in (items_of p.app.names others g)) x s agree own
    (subst (λ (d : Data). AreItemsUnless p values g from (fault_in d) (rows_in d) x) (items_same p.app of values others g c s agree own there) h)

-- ---- the screen
first_moved : (p : Present) (of : ℕ → Bool) (values others : ℕ → Data) (k : ℕ) (c : ControlName) (kind : Control) (o : Option Items) → IsSoundApp p.app → Agrees p.app of values others → of k ≡ true → slice_get p.app.names.controls k ≡ Some c → ShowsFirstItems p values k kind o → ShowsFirstItems p others k kind o
first_moved p of values others k c control.Gallery (Some x) s agree own there h = items_moved p of values others k 1 c x s agree own there h
first_moved p of values others k c control.Gallery None s agree own there h = h
first_moved p of values others k c control.Label o s agree own there h = h
first_moved p of values others k c control.Button o s agree own there h = h
first_moved p of values others k c control.TextInput o s agree own there h = h
first_moved p of values others k c control.Slider o s agree own there h = h
first_moved p of values others k c control.Checkbox o s agree own there h = h
first_moved p of values others k c control.DatePicker o s agree own there h = h

-- what shows whether a control is shown is looked at, if it could be
seen_alike : (a b x y : Bool) → ((a && b) ≡ true → x ≡ y) → (a && (b && x)) ≡ (a && (b && y))
seen_alike true true x y h = h refl
seen_alike true false x y h = refl
seen_alike false b x y h = refl

pub could : (a b x : Bool) → (a && (b && x)) ≡ true → (a && b) ≡ true
could true true x h = refl
could true false x h = absurd cc
could false b x h = absurd cc

pub on_screen : (n : Names) (s k : ℕ) (c : ControlName) → slice_get n.controls k ≡ Some c → is_on_screen n s k ≡ (is_none c.gallery && (c.screen == s))
on_screen n s k c there = ap (λ (o : Option ControlName). unwrap_or (option_map (λ (d : ControlName). is_none d.gallery && (d.screen == s)) o) false) there

pub shown_moved : (p : Present) (values others : ℕ → Data) (k : ℕ) (c : ControlName) (o : Option Shown) → IsSoundApp p.app → Agrees p.app (is_on_screen p.app.names p.session.screen) values others → slice_get p.app.names.controls k ≡ Some c → IsShown p values k c o → IsShown p others k c o
shown_moved p values others k c o s agree there = by o
  where
    of : ℕ → Bool
    of = is_on_screen p.app.names p.session.screen

    alike : is_top_level_shown p.app.names p.session values k c ≡ is_top_level_shown p.app.names p.session others k c
    alike = seen_alike (is_none c.gallery) (c.screen == p.session.screen) (is_visible p.app.names values k) (is_visible p.app.names others k)
        (λ e. visible_same p.app of values others k c s agree (on_screen p.app.names p.session.screen k c there ∙ e) there)

    by : (o : Option Shown) → IsShown p values k c o → IsShown p others k c o
    by None h = sym alike ∙ h
    by (Some x) h =
        let own : of k ≡ true = on_screen p.app.names p.session.screen k c there ∙ could (is_none c.gallery) (c.screen == p.session.screen) (is_visible p.app.names values k) h.0 in (
          sym alike ∙ h.0,
          record {
            name = (h.1).name;
            kind = (h.1).kind;
            shows = (h.1).shows ∙ displayed_same p.app of values others p.session k c c.kind s agree own there;
            items = first_moved p of values others k c c.kind x.items s agree own there (h.1).items;
          },
        )

-- A VIEW LOOKS AT NO OTHER CELLS
pub view_moved : (p : Present) (values others : ℕ → Data) (v : View) → IsSoundApp p.app → Agrees p.app (is_on_screen p.app.names p.session.screen) values others → IsView p values v → IsView p others v
view_moved p values others v s agree h = record {
  screen = h.screen;
  shown = given_moved (IsShown p values) (IsShown p others) 0 p.app.names.controls v.shown (λ i n c o e there. shown_moved p values others n c o s agree (at p.app.names.controls i n c e there)) h.shown;
}

-- ---- the items of a gallery alone
pub it_is : (g : ℕ) → is_it g g ≡ true
it_is g = grind arith

-- AND NEITHER DO ITEMS
pub seen_moved : (p : Present) (values others : ℕ → Data) (g from : ℕ) (o : Option Items) → IsSoundApp p.app → Agrees p.app (is_it g) values others → AreSeenItems p values g from o → AreSeenItems p others g from o
seen_moved p values others g from o s agree h = by (slice_get p.app.names.controls g) refl o h
  where
    alike : (q : Option ControlName) → slice_get p.app.names.controls g ≡ q → unwrap_or (option_map (is_seen p.app.names p.session values g) q) false ≡ unwrap_or (option_map (is_seen p.app.names p.session others g) q) false
    alike None there = refl
    alike (Some c) there = ap (λ b. (c.screen == p.session.screen) && b) (visible_same p.app (is_it g) values others g c s agree (it_is g) there)

    seen : (q : Option ControlName) → slice_get p.app.names.controls g ≡ q → is_seen_at p.app.names p.session values g ≡ is_seen_at p.app.names p.session others g
    seen q there = alike (slice_get p.app.names.controls g) refl

    by : (q : Option ControlName) → slice_get p.app.names.controls g ≡ q → (o : Option Items) → AreSeenItems p values g from o → AreSeenItems p others g from o
    by q there None x = sym (seen q there) ∙ x
    by (Some c) there (Some i) x = (sym (seen (Some c) there) ∙ x.0, items_moved p (is_it g) values others g from c i s agree (it_is g) there x.1)
    by None there (Some i) x = let no : false ≡ true = sym (ap (λ (q : Option ControlName). unwrap_or (option_map (is_seen p.app.names p.session values g) q) false) there) ∙ x.0 in absurd cc
