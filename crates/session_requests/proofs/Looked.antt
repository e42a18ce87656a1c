-- What checks come to hangs on the cells alone at which they look, and these have one fresh value.
use Rattle.std.proofs.Common.{◌≡◌, ◌⊎◌, ℕ, Bool, true, false, List, Option, None, Some, Result, Ok, Err, refl, sym, subst, ap, ◌∙◌, inl, inr, if◌then◌else◌}
use Rattle.std.proofs.lemmas.Bool.{cases_eq}
use Rattle.std.specs.List.{Contains, slice_get}
use Rattle.std.specs.Prelude.{◌==◌, ◌&&◌, codes, pos, option_and_then, option_map, unwrap_or}
use Rattle.recalc.proofs.Kept.{gives_agrees, where_map}
use Rattle.recalc.proofs.of_app_semantics.Freshness.{read_behind}
use Rattle.recalc.proofs.of_fx_semantics.Wider.{stays}
use Rattle.recalc.specs.app_cells.Leaning.{LeansOn, cell_of_property, default_cell, items_cell}
use Rattle.recalc.specs.app_cells.Spots.{item_or}
use Rattle.recalc.specs.app_cells.declared.app.App.{App}
use Rattle.recalc.specs.app_cells.declared.app.CellInfo.{CellInfo}
use Rattle.recalc.specs.app_semantics.Chosen.{row_at_position}
use Rattle.recalc.specs.app_semantics.Fresh.{AreKnown, CanRead, IsByItself, IsValueOf, is_told, formula_context}
use Rattle.recalc.specs.app_semantics.Holding.{HoldsFitting}
use Rattle.recalc.specs.app_semantics.Laws.{OneFreshAt}
use Rattle.recalc.specs.app_semantics.Needed.{IsFreshAt, Needs, further, is_alone, itself, stands_alone, stands_by}
use Rattle.recalc.specs.app_semantics.Present.{SourceGives, Present, given_or, input_of, items_of, unset_value, cell_value_or}
use Rattle.recalc.specs.app_semantics.Properties.{IsForItem, IsPropertyForItem, is_true, is_visible, property_value}
use Rattle.recalc.specs.app_semantics.Sound.{IsSoundApp}
use Rattle.recalc.specs.fx_semantics.Around.{record_of}
use Rattle.recalc.specs.fx_semantics.Rows.{rows_in}
use Rattle.fx_types.specs.Values.{Data, blank, boolean, no_rows, number, tab}
use Rattle.fx_eval.specs.fx_plan.Limited.{limited}
use Rattle.fx_core.specs.declared.names.ControlName.{ControlName}
use Rattle.fx_core.specs.declared.names.Names.{Names}
use Rattle.fx_core.specs.declared.sources.Source.TheVariants as source
use Rattle.fx_value.specs.Columns.{Row}
use Rattle.recalc.specs.Kept.{IsInOrder, CacheState, cached_value}
use Rattle.session_state.specs.Sessions.{SessionState, stored_value}
use Rattle.view_text.specs.declared.refused.Refusal.{Refusal}
use Rattle.session_requests.specs.Acting.{input_trigger, item_seen, trigger_at, with_input}
use Rattle.session_requests.specs.Caching.{AreFreshAt}
use Rattle.session_requests.specs.Posting.{EventLooksAt, InputLooksAt, IsPropertyAt, IsShownToUser, IsVisibleFor, VisibleLeansOn, gallery_around, shown_by}
use Rattle.session_requests.specs.Shown.{control_number, is_shown_or_in_shown_gallery}
use Rattle.session_requests.specs.Targets.{InputValue, IsTarget, event_at, event_named, event_target, event_gallery, value_given_to, greatest_of, has_event, input_at, input_by, input_named, input_target, is_gallery, least_of, bound_of, or_refused, takes_input, with_item, target_row}
use Rattle.session_requests.specs.declared.event.Event.{Event}
use Rattle.session_requests.specs.declared.event.Place.{Place}
use Rattle.session_requests.specs.declared.input.Input.{Input}
use Rattle.session_requests.specs.declared.target.Item.{Item}
use Rattle.session_requests.specs.declared.target.Target.{Target}
use Rattle.session_requests.proofs.ForItems.{around, in_same, item_is}
use Rattle.session_requests.proofs.Items.{row_ok}
use Rattle.session_requests.proofs.Judging.{given_ok, or_ok}

-- ---- cells that have no value by themselves

stands_not : (cells : List CellInfo) (k : ℕ) (c : CellInfo) → slice_get cells k ≡ Some c → is_alone cells k ≡ false → stands_alone c ≡ false
stands_not cells k c there lone = ap (λ (o : Option CellInfo). unwrap_or (option_map stands_alone o) false) (sym there) ∙ lone

-- such a cell needs no other
needs_only : (a : App) (k d : ℕ) → is_alone a.cells k ≡ false → Needs a k d → d ≡ k
needs_only a k d lone (itself j) = refl
needs_only a k e lone (further j d f c n there alone leans) =
    let is : d ≡ k = needs_only a k d lone n in
    let not : stands_alone c ≡ false = stands_not a.cells k c (subst (λ (x : ℕ). slice_get a.cells x ≡ Some c) is there) lone in
    let both : true ≡ false = sym alone ∙ not in
    absurd cc

counts_blank : (acts : Bool) (item : Option ℕ) (P : Data → Type 0) (v : Data) → stands_by acts item ≡ false → v ≡ blank → IsByItself acts item (P v) v
counts_blank false None P v e b = absurd cc
counts_blank false (Some g) P v e b = b
counts_blank true item P v e b = b

-- such a cell is fresh, since it counts as blank
bare_fresh : (p : Present) (c : CacheState) (k : ℕ) → IsInOrder p.app c → is_alone p.app.cells k ≡ false → IsFreshAt p (cached_value c) k
bare_fresh p c k order lone = λ d i needs there.
    let is : d ≡ k = needs_only p.app k d lone needs in
    let here : slice_get p.app.cells k ≡ Some i = subst (λ (x : ℕ). slice_get p.app.cells x ≡ Some i) is there in
    counts_blank i.cell.acts i.cell.item (IsValueOf p (cached_value c) None i) (cached_value c d) (stands_not p.app.cells k i here lone) (ap (cached_value c) is ∙ order.bare k lone)

beyond_alone : (cells : List CellInfo) (k : ℕ) → slice_get cells k ≡ None → is_alone cells k ≡ false
beyond_alone cells k e = ap (λ (o : Option CellInfo). unwrap_or (option_map stands_alone o) false) e

-- WHAT IS KEPT is fresh where it is looked at, once the cells are up to date that have values by themselves
pub looked_fresh : (p : Present) (looked : ℕ → Type 0) (c : CacheState) → IsInOrder p.app c → ((k : ℕ) → looked k → is_alone p.app.cells k ≡ true → IsFreshAt p (cached_value c) k) → AreFreshAt p looked (cached_value c)
looked_fresh p looked c order made = record {
  fresh = λ k l. by k l (is_alone p.app.cells k) refl;
  fits = order.fits;
  beyond = λ k e. order.bare k (beyond_alone p.app.cells k e);
}
  where
    by : (k : ℕ) → looked k → (b : Bool) → is_alone p.app.cells k ≡ b → IsFreshAt p (cached_value c) k
    by k l true e = made k l e
    by k l false e = bare_fresh p c k order e

-- the cells that were brought up to date for an input are those at which its checks look
pub input_made : (a : App) (i : Input) (k : ℕ) (cells : List ℕ) → control_number i.control a.names ≡ Some k →
    ((d : ℕ) → IsPropertyAt a (shown_by a k) (codes "Visible") d → is_alone a.cells d ≡ true → Contains cells d) →
    ((d : ℕ) → IsPropertyAt a k (codes "Min") d → is_alone a.cells d ≡ true → Contains cells d) →
    ((d : ℕ) → IsPropertyAt a k (codes "Max") d → is_alone a.cells d ≡ true → Contains cells d) →
    ((d : ℕ) → default_cell a.names k ≡ Some d → is_alone a.cells d ≡ true → Contains cells d) →
    (d : ℕ) → InputLooksAt a i d → is_alone a.cells d ≡ true → Contains cells d
input_made a i k cells named shown least greatest unset d l lone =
    let both : Some l.0 ≡ Some k = sym l.1 ∙ named in
    let same : l.0 ≡ k = cc in
    let of : ℕ → Type 0 = λ j. IsPropertyAt a (shown_by a j) (codes "Visible") d ⊎ (IsPropertyAt a j (codes "Min") d ⊎ (IsPropertyAt a j (codes "Max") d ⊎ (default_cell a.names j ≡ Some d))) in
    by (subst of same l.2)
  where
    by : IsPropertyAt a (shown_by a k) (codes "Visible") d ⊎ (IsPropertyAt a k (codes "Min") d ⊎ (IsPropertyAt a k (codes "Max") d ⊎ (default_cell a.names k ≡ Some d))) → Contains cells d
    by (inl e) = shown d e lone
    by (inr (inl e)) = least d e lone
    by (inr (inr (inl e))) = greatest d e lone
    by (inr (inr (inr e))) = unset d e lone

pub event_made : (a : App) (e : Event) (k : ℕ) (cells : List ℕ) → control_number e.control a.names ≡ Some k →
    ((d : ℕ) → IsPropertyAt a (shown_by a k) (codes "Visible") d → is_alone a.cells d ≡ true → Contains cells d) →
    ((d : ℕ) → IsPropertyAt a (shown_by a k) (codes "Items") d → is_alone a.cells d ≡ true → Contains cells d) →
    ((d : ℕ) → VisibleLeansOn a k d → is_alone a.cells d ≡ true → Contains cells d) →
    (d : ℕ) → EventLooksAt a e d → is_alone a.cells d ≡ true → Contains cells d
event_made a e k cells named shown items leaned d l lone =
    let both : Some l.0 ≡ Some k = sym l.1 ∙ named in
    let same : l.0 ≡ k = cc in
    let of : ℕ → Type 0 = λ j. IsPropertyAt a (shown_by a j) (codes "Visible") d ⊎ (IsPropertyAt a (shown_by a j) (codes "Items") d ⊎ VisibleLeansOn a j d) in
    by (subst of same l.2)
  where
    by : IsPropertyAt a (shown_by a k) (codes "Visible") d ⊎ (IsPropertyAt a (shown_by a k) (codes "Items") d ⊎ VisibleLeansOn a k d) → Contains cells d
    by (inl q) = shown d q lone
    by (inr (inl q)) = items d q lone
    by (inr (inr q)) = leaned d q lone

-- no control, and nothing is looked at
pub input_unnamed : (a : App) (i : Input) (d : ℕ) → control_number i.control a.names ≡ None → InputLooksAt a i d → ⊥
input_unnamed a i d none l = let no : Some l.0 ≡ None = sym l.1 ∙ none in absurd cc

pub event_unnamed : (a : App) (e : Event) (d : ℕ) → control_number e.control a.names ≡ None → EventLooksAt a e d → ⊥
event_unnamed a e d none l = let no : Some l.0 ≡ None = sym l.1 ∙ none in absurd cc

-- ---- one value of each cell that is looked at

pub agrees : OneFreshAt → (p : Present) (looked : ℕ → Type 0) (values others : ℕ → Data) → IsSoundApp p.app → HoldsFitting p.app.names p.session → AreKnown p.app p.tables → AreFreshAt p looked values → AreFreshAt p looked others →
    (k : ℕ) → looked k → others k ≡ values k
agrees one p looked values others sound holds known x y k l = by (slice_get p.app.cells k) refl
  where
    by : (o : Option CellInfo) → slice_get p.app.cells k ≡ o → others k ≡ values k
    by None e = y.beyond k e ∙ sym (x.beyond k e)
    by (Some c) e = one p others values k c sound holds known e (y.fresh k l) (x.fresh k l)

-- ---- what is looked at decides

value_same : (values others : ℕ → Data) (d : Data) (o : Option ℕ) → ((k : ℕ) → o ≡ Some k → others k ≡ values k) → cell_value_or others d o ≡ cell_value_or values d o
value_same values others d None h = refl
value_same values others d (Some k) h = h k refl

-- what a control is shown by, by its name
shown_is : (a : App) (k : ℕ) (c : ControlName) → slice_get a.names.controls k ≡ Some c → unwrap_or c.gallery k ≡ shown_by a k
shown_is a k c there = ap (λ (o : Option ℕ). unwrap_or o k) (sym (around a.names k c there))

shown_same : (a : App) (s : SessionState) (values others : ℕ → Data) (k : ℕ) (c : ControlName) → slice_get a.names.controls k ≡ Some c →
    ((d : ℕ) → IsPropertyAt a (shown_by a k) (codes "Visible") d → others d ≡ values d) → is_shown_or_in_shown_gallery a.names s others k c ≡ is_shown_or_in_shown_gallery a.names s values k c
shown_same a s values others k c there h =
    ap (λ (v : Data). (c.screen == s.screen) && is_true v)
    (value_same values others (boolean true) (cell_of_property a.names (unwrap_or c.gallery k) (codes "Visible"))
    (λ d e. h d (subst (λ (j : ℕ). cell_of_property a.names j (codes "Visible") ≡ Some d) (shown_is a k c there) e)))

-- ---- inputs

input_at_same : (a : App) (s : SessionState) (values others : ℕ → Data) (i : Input) (k : ℕ) (o : Option ControlName) → control_number i.control a.names ≡ Some k → slice_get a.names.controls k ≡ o →
    ((d : ℕ) → InputLooksAt a i d → others d ≡ values d) → input_at a.names s others i k o ≡ input_at a.names s values i k o
input_at_same a s values others i k None named there h = refl
input_at_same a s values others i k (Some c) named there h =
    let shown = shown_same a s values others k c there (λ d e. h d (k, named, inl e)) in
    let least : least_of a.names others k ≡ least_of a.names values k = ap bound_of (value_same values others (number (pos 0)) (cell_of_property a.names k (codes "Min")) (λ d e. h d (k, named, inr (inl e)))) in
    let greatest : greatest_of a.names others k ≡ greatest_of a.names values k = ap bound_of (value_same values others (number (pos 1000000)) (cell_of_property a.names k (codes "Max")) (λ d e. h d (k, named, inr (inr (inl e))))) in
    λ j. or_refused (takes_input c) 16 (or_refused (shown j) 17 (value_given_to k (input_by c.kind (least j) (greatest j) i.value)))

pub input_same : (a : App) (s : SessionState) (values others : ℕ → Data) (i : Input) → ((d : ℕ) → InputLooksAt a i d → others d ≡ values d) → input_target a.names s others i ≡ input_target a.names s values i
input_same a s values others i h = by (control_number i.control a.names) refl
  where
    by : (o : Option ℕ) → control_number i.control a.names ≡ o → input_named a.names s others i o ≡ input_named a.names s values i o
    by None e = refl
    by (Some k) e = input_at_same a s values others i k (slice_get a.names.controls k) e refl h

-- the control that an input is of is the one that it names
at_number : (n : Names) (s : SessionState) (values : ℕ → Data) (i : Input) (k : ℕ) (o : Option ControlName) (g : InputValue) → input_at n s values i k o ≡ Ok g → k ≡ g.0
at_number n s values i k None g e = absurd cc
at_number n s values i k (Some c) g e =
    let rest = value_given_to k (input_by c.kind (least_of n values k) (greatest_of n values k) i.value) in
    let a = or_ok InputValue (takes_input c) 16 (or_refused (is_shown_or_in_shown_gallery n s values k c) 17 rest) g e in
    let b = or_ok InputValue (is_shown_or_in_shown_gallery n s values k c) 17 rest g a.1 in
    sym (given_ok k (input_by c.kind (least_of n values k) (greatest_of n values k) i.value) g b.1).0

pub input_number : (n : Names) (s : SessionState) (values : ℕ → Data) (i : Input) (g : InputValue) → input_target n s values i ≡ Ok g → control_number i.control n ≡ Some g.0
input_number n s values i g e = by (control_number i.control n) e
  where
    by : (o : Option ℕ) → input_named n s values i o ≡ Ok g → o ≡ Some g.0
    by None e = absurd cc
    by (Some k) e = ap (λ (j : ℕ). Some j) (at_number n s values i k (slice_get n.controls k) g e)

-- what acts as an input is accepted
pub trigger_same : (a : App) (s r : SessionState) (values others : ℕ → Data) (i : Input) (g : InputValue) → input_target a.names s values i ≡ Ok g → ((d : ℕ) → InputLooksAt a i d → others d ≡ values d) →
    input_trigger a.names r others g.0 ≡ input_trigger a.names r values g.0
trigger_same a s r values others i g e h =
    ap (λ (v : Data). trigger_at (slice_get a.names.controls g.0) g.0 (is_true (given_or (stored_value r (source.Input g.0)) v)))
    (value_same values others (unset_value (slice_get a.names.controls g.0)) (default_cell a.names g.0) (λ d q. h d (g.0, input_number a.names s values i g e, inr (inr (inr q)))))

-- ---- events

items_same : (a : App) (values others : ℕ → Data) (g : ℕ) → ((d : ℕ) → IsPropertyAt a g (codes "Items") d → others d ≡ values d) → items_of a.names others g ≡ items_of a.names values g
items_same a values others g h = value_same values others (tab no_rows) (items_cell a.names g) h

-- the gallery of an item is what its control is shown by
gallery_shown : (a : App) (k : ℕ) (c : ControlName) (g : ℕ) → slice_get a.names.controls k ≡ Some c → event_gallery k c ≡ Some g → shown_by a k ≡ g
gallery_shown a k c g there e = sym (shown_is a k c there) ∙ by c.gallery e
  where
    by : (o : Option ℕ) → item_or o (is_gallery c.kind) k ≡ Some g → unwrap_or o k ≡ g
    by (Some j) q = cc
    by None q = own (is_gallery c.kind) q
      where
        own : (b : Bool) → item_or None b k ≡ Some g → k ≡ g
        own true q = cc
        own false q = absurd cc

item_same : (a : App) (values others : ℕ → Data) (k : ℕ) (given : Option Place) (gallery : Option ℕ) → ((g : ℕ) → gallery ≡ Some g → items_of a.names others g ≡ items_of a.names values g) →
    with_item a.names others k given gallery ≡ with_item a.names values k given gallery
item_same a values others k None None h = refl
item_same a values others k (Some p) (Some g) h = ap (λ (v : Data). target_row k g p (row_at_position p.at (rows_in v))) (h g refl)
item_same a values others k None (Some g) h = refl
item_same a values others k (Some p) None h = refl

event_at_same : (a : App) (s : SessionState) (values others : ℕ → Data) (e : Event) (k : ℕ) (o : Option ControlName) → control_number e.control a.names ≡ Some k → slice_get a.names.controls k ≡ o →
    ((d : ℕ) → EventLooksAt a e d → others d ≡ values d) → event_at a.names s others e k o ≡ event_at a.names s values e k o
event_at_same a s values others e k None named there h = refl
event_at_same a s values others e k (Some c) named there h =
    let shown = shown_same a s values others k c there (λ d q. h d (k, named, inl q)) in
    let item = item_same a values others k e.item (event_gallery k c)
    (λ g own. items_same a values others g (λ d q. h d (k, named, inr (inl (subst (λ (j : ℕ). IsPropertyAt a j (codes "Items") d) (sym (gallery_shown a k c g there own)) q))))) in
    λ j. or_refused (has_event e.event c.kind) 16 (or_refused (shown j) 17 (item j))

pub event_same : (a : App) (s : SessionState) (values others : ℕ → Data) (e : Event) → ((d : ℕ) → EventLooksAt a e d → others d ≡ values d) → event_target a.names s others e ≡ event_target a.names s values e
event_same a s values others e h = by (control_number e.control a.names) refl
  where
    by : (o : Option ℕ) → control_number e.control a.names ≡ o → event_named a.names s others e o ≡ event_named a.names s values e o
    by None q = refl
    by (Some k) q = event_at_same a s values others e k (slice_get a.names.controls k) q refl h

-- the control that an event is of is the one that it names
number_of_item : (n : Names) (values : ℕ → Data) (k : ℕ) (given : Option Place) (gallery : Option ℕ) (t : Target) → with_item n values k given gallery ≡ Ok t → k ≡ t.control
number_of_item n values k None None t e = let same : record { control = k; item = None } ≡ t = cc in ap (λ (x : Target). x.control) same
number_of_item n values k (Some p) (Some g) t e =
    let row = row_ok k g p (row_at_position p.at (rows_in (items_of n values g))) t e in
    ap (λ (x : Target). x.control) row.2
number_of_item n values k None (Some g) t e = absurd cc
number_of_item n values k (Some p) None t e = absurd cc

event_at_number : (n : Names) (s : SessionState) (values : ℕ → Data) (e : Event) (k : ℕ) (o : Option ControlName) (t : Target) → event_at n s values e k o ≡ Ok t → k ≡ t.control
event_at_number n s values e k None t h = absurd cc
event_at_number n s values e k (Some c) t h =
    let rest = with_item n values k e.item (event_gallery k c) in
    let a = or_ok Target (has_event e.event c.kind) 16 (or_refused (is_shown_or_in_shown_gallery n s values k c) 17 rest) t h in
    let b = or_ok Target (is_shown_or_in_shown_gallery n s values k c) 17 rest t a.1 in
    number_of_item n values k e.item (event_gallery k c) t b.1

pub event_number : (n : Names) (s : SessionState) (values : ℕ → Data) (e : Event) (t : Target) → event_target n s values e ≡ Ok t → control_number e.control n ≡ Some t.control
event_number n s values e t h = by (control_number e.control n) h
  where
    by : (o : Option ℕ) → event_named n s values e o ≡ Ok t → o ≡ Some t.control
    by None q = absurd cc
    by (Some k) q = ap (λ (j : ℕ). Some j) (event_at_number n s values e k (slice_get n.controls k) t q)

-- the row that the formula of an event sees
pub seen_same : (a : App) (values others : ℕ → Data) (e : Event) (t : Target) → IsTarget a.names values t → control_number e.control a.names ≡ Some t.control → ((d : ℕ) → EventLooksAt a e d → others d ≡ values d) →
    item_seen a.names others t.item ≡ item_seen a.names values t.item
seen_same a values others e t is named h = by t.item refl
  where
    by : (o : Option Item) → t.item ≡ o → item_seen a.names others o ≡ item_seen a.names values o
    by None q = refl
    by (Some i) q =
        let own = gallery_shown a t.control is.control i.gallery is.there (item_is a.names values t i is q).gallery_is in
        ap (λ (v : Data). option_map record_of (row_at_position i.at (rows_in v)))
        (items_same a values others i.gallery (λ d p. h d (t.control, named, inr (inl (subst (λ (j : ℕ). IsPropertyAt a j (codes "Items") d) (sym own) p)))))

-- ---- whether a control is visible for an item

value_over : (p : Present) (values others : ℕ → Data) (item : Data) (c : CellInfo) (v : Data) → ((d : ℕ) → LeansOn p.app.names c d → values d ≡ others d) → IsValueOf p values (Some item) c v → IsValueOf p others (Some item) c v
value_over p values others item c v h y =
    where_map _ (is_told p.tables c.reads)
    (stays (λ r d. CanRead c.reads r × SourceGives p others r d) (limited p.app.names.schema.tables p.app.limit 0 false c.core) (formula_context p values c.reads (Some item)) v
    (λ r d g. (g.0, gives_agrees p values others r d (λ e q. h e (r, read_behind p.app.names c.reads r e g.0 q, q)) g.1))) y

property_over : (p : Present) (values others : ℕ → Data) (item : Data) (k : ℕ) (v : Data) → ((d : ℕ) → VisibleLeansOn p.app k d → values d ≡ others d) →
    IsPropertyForItem p values item k (codes "Visible") (boolean true) v → IsPropertyForItem p others item k (codes "Visible") (boolean true) v
property_over p values others item k v h y = by (cell_of_property p.app.names k (codes "Visible")) refl y
  where
    by : (o : Option ℕ) → cell_of_property p.app.names k (codes "Visible") ≡ o → IsForItem p values item (boolean true) o v → IsForItem p others item (boolean true) o v
    by None e x = x
    by (Some j) e x = (x.0, x.1, value_over p values others item x.0 v (λ d leans. h d (j, x.0, e, x.1, leans)) x.2)

visible_over : (p : Present) (values others : ℕ → Data) (k g at : ℕ) (b : Bool) → items_of p.app.names others g ≡ items_of p.app.names values g → ((d : ℕ) → VisibleLeansOn p.app k d → others d ≡ values d) →
    IsVisibleFor p others k g at b → IsVisibleFor p values k g at b
visible_over p values others k g at b items h x = record {
  row = x.row;
  there = ap (λ (v : Data). row_at_position at (rows_in v)) (sym items) ∙ x.there;
  value = x.value;
  is_value = property_over p others values (record_of x.row) k x.value h x.is_value;
  is = x.is;
}

pub shown_over : (p : Present) (values others : ℕ → Data) (e : Event) (k : ℕ) (item : Option Item) (b : Bool) → control_number e.control p.app.names ≡ Some k → ((d : ℕ) → EventLooksAt p.app e d → others d ≡ values d) →
    IsShownToUser p others k (gallery_around p.app k) item b → IsShownToUser p values k (gallery_around p.app k) item b
shown_over p values others e k item b named h x = by (gallery_around p.app k) item refl x
  where
    by : (o : Option ℕ) (i : Option Item) → gallery_around p.app k ≡ o → IsShownToUser p others k o i b → IsShownToUser p values k o i b
    by (Some g) (Some i) own y =
        let is : shown_by p.app k ≡ g = ap (λ (q : Option ℕ). unwrap_or q k) own in
        visible_over p values others k g i.at b
        (items_same p.app values others g (λ d q. h d (k, named, inr (inl (subst (λ (j : ℕ). IsPropertyAt p.app j (codes "Items") d) (sym is) q)))))
        (λ d leans. h d (k, named, inr (inr leans))) y
    by (Some g) None own y = y
    by None i own y = y
