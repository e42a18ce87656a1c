-- What is shown has one number of rows that showing it visits.
use Rattle.std.proofs.Common.{◌≡◌, ℕ, suc, ◌+◌, ◌-◌, List, [], ◌∷◌, Bool, true, false, codes, drop, max, take, Option, Some, None, refl, sym, subst, ◌∙◌, arith, inr}
use Rattle.std.specs.List.{slice_get}
use Rattle.std.specs.Prelude.{◌==◌, is_none}
use Rattle.session_views.proofs.Galleries.{is_in_gallery, text_for}
use Rattle.session_views.proofs.Looks.{Agrees, at, could, for_moved, it_is, items_same, on_screen, shown_moved, under}
use Rattle.session_views.proofs.Single.{as_masked, as_other, for_one, ground, masked, masked_fits, shown_one}
use Rattle.session_views.specs.Laws.{OneItemsVisit, OneScreenVisits}
use Rattle.session_views.specs.Looking.{AreFreshFor, is_it, is_on_screen}
use Rattle.session_views.specs.Views.{IsShown, fault_in, is_in}
use Rattle.session_views.specs.Visits.{AreVisited, ControlVisits, FirstItemsVisit, GivenItemsVisit, ItemAtVisits, ItemsUnlessVisit, ItemsVisit, OrNone, PropertyVisits, ShownVisits, TemplateVisits}
use Rattle.fx_types.specs.Values.{Data}
use Rattle.fx_types.specs.declared.faults.Fault.{Fault}
use Rattle.fx_core.specs.declared.names.ControlName.{ControlName}
use Rattle.fx_value.specs.Columns.{Row as Fields}
use Rattle.recalc.proofs.ForItems.{Ground, template_cell, visible_for}
use Rattle.recalc.specs.ItemVisits.{IsLedFresh, OneItemVisits}
use Rattle.recalc.specs.Templates.{IsTemplateProperty}
use Rattle.recalc.specs.app_cells.Leaning.{cell_of_property}
use Rattle.recalc.specs.app_cells.declared.app.App.{App}
use Rattle.recalc.specs.app_semantics.Fresh.{AreKnown}
use Rattle.recalc.specs.app_semantics.Holding.{HoldsFitting}
use Rattle.recalc.specs.app_semantics.Laws.{OneFreshAt}
use Rattle.recalc.specs.app_semantics.Present.{Present, items_of, present}
use Rattle.recalc.specs.app_semantics.Properties.{is_visible}
use Rattle.recalc.specs.app_semantics.Sound.{IsSoundApp}
use Rattle.recalc.specs.fx_eval.Laws.{AreHeld}
use Rattle.recalc.specs.fx_eval.Visits.{Both}
use Rattle.recalc.specs.fx_semantics.Around.{record_of}
use Rattle.recalc.specs.fx_semantics.Rows.{rows_in}
use Rattle.recalc.specs.fx_semantics.Unique.{OneValue}
use Rattle.row_queries.specs.declared.rows.Row.{Row}
use Rattle.session_state.specs.Sessions.{SessionState}
use Rattle.view_text.specs.declared.views.ItemControl.{ItemControl}
use Rattle.view_text.specs.declared.views.ItemView.{ItemView}
use Rattle.view_text.specs.declared.views.Items.{Items}
use Rattle.view_text.specs.declared.views.Shown.{Shown}

-- one after the other
both_one : (P P' Q Q' : ℕ → Type 0) (n l : ℕ) → ((x y : ℕ) → P x → P' y → x ≡ y) → ((x y : ℕ) → Q x → Q' y → x ≡ y) → Both P Q n → Both P' Q' l → n ≡ l
both_one P P' Q Q' n l one then (x, y, p, q, sum) (z, w, r, t, total) =
    let first : x ≡ z = one x z p r in
    let second : y ≡ w = then y w q t in
    omega (arith, first, second, sum, total)

-- lists, where it is so with each thing
visited_one : {C A : Type 0} (P Q : ℕ → C → Option A → ℕ → Type 0) (k : ℕ) (cs : List C) (xs ys : List A) (n l : ℕ) → ((i place : ℕ) (c : C) (o q : Option A) (x y : ℕ) → place ≡ k + i → slice_get cs i ≡ Some c → P place c o x → Q place c q y → x ≡ y) →
    AreVisited P k cs xs n → AreVisited Q k cs ys l → n ≡ l
visited_one P Q k [] xs ys n l one h j = h.1 ∙ sym j.1
visited_one {C} {A} P Q k (c ∷ cs) xs ys n l one (o, us, is, both) (q, ws, too, others) =
    both_one (P k c o) (Q k c q) (AreVisited P (suc k) cs us) (AreVisited Q (suc k) cs ws) n l (λ x y g h. one 0 k c o q x y (omega arith) refl g h)
    (λ x y g h. visited_one P Q (suc k) cs us ws x y (λ i place d u w v z e there. one (suc i) place d u w v z (omega (arith, e)) there) g h) both others

-- where cells that are looked at have fresh values, by whatever numbers these are given
module _ (one : OneValue) (once : OneFreshAt) (law : OneItemVisits) (a : App) (s : SessionState) (rows : List (List Row)) (m : ℕ) (sound : IsSoundApp a) (holds : HoldsFitting a.names s) (known : AreKnown a (Some rows))
    (held : AreHeld (record { shapes = a.names.schema.tables; rows = rows })) (of : ℕ → Bool) (values others : ℕ → Data) (fresh : AreFreshFor (present a s (Some rows) m) values of) (also : AreFreshFor (present a s (Some rows) m) others of) where
  abbrev p : Present
  p = present a s (Some rows) m

  agree : Agrees a of values (masked a values)
  agree = as_masked p of values sound holds known fresh

  agree_too : Agrees a of others (masked a values)
  agree_too = as_other once p of values others sound holds known fresh also

  alike : Agrees a of values others
  alike = λ k c looked there. agree k c looked there ∙ sym (agree_too k c looked there)

  grounded : Ground p (masked a values)
  grounded = ground one p (masked a values) sound holds known (masked_fits a values)

  led : (vs : ℕ → Data) (g : ℕ) (o : Option ℕ) → AreFreshFor p vs of → of g ≡ true → IsTemplateProperty a g o → IsLedFresh p vs o
  led vs g None f own template = tt
  led vs g (Some k) f own template = λ c d there leans.
      let cell = template_cell a g k c template there in
      f d (inr (k, c, there, (under of c g own cell.0 cell.1, leans)))

  property_visits_one : (g : ℕ) (item : Data) (k : ℕ) (name : List ℕ) (x y : ℕ) → of g ≡ true → IsTemplateProperty a g (cell_of_property a.names k name) → PropertyVisits a s rows m values item k name x → PropertyVisits a s rows m others item k name y → x ≡ y
  property_visits_one g item k name x y own template h j =
      law a s rows m values others item (cell_of_property a.names k name) x y sound holds known held (led values g (cell_of_property a.names k name) fresh own template) (led others g (cell_of_property a.names k name) also own template) h j

  control_visits_one : (g : ℕ) (item : Data) (k : ℕ) (c : ControlName) (o : Option ItemControl) (x y : ℕ) → of g ≡ true → slice_get a.names.controls k ≡ Some c → is_in g c.gallery ≡ true → ControlVisits a s rows m values item k o x → ControlVisits a s rows m others item k o y → x ≡ y
  control_visits_one g item k c None x y own there within h j = property_visits_one g item k (codes "Visible") x y own (visible_for a g k sound (c, there, is_in_gallery g c.gallery within)) h j
  control_visits_one g item k c (Some i) x y own there within h j =
      both_one (PropertyVisits a s rows m values item k (codes "Visible")) (PropertyVisits a s rows m others item k (codes "Visible")) (PropertyVisits a s rows m values item k (codes "Text")) (PropertyVisits a s rows m others item k (codes "Text")) x y
      (λ u v g' j'. property_visits_one g item k (codes "Visible") u v own (visible_for a g k sound (c, there, is_in_gallery g c.gallery within)) g' j')
      (λ u v g' j'. property_visits_one g item k (codes "Text") u v own (text_for a g k c sound there within) g' j') h j

  template_one : (g : ℕ) (item : Data) (k : ℕ) (c : ControlName) (o q : Option ItemControl) (x y : ℕ) → of g ≡ true → slice_get a.names.controls k ≡ Some c → TemplateVisits a s rows m values g item k c o x → TemplateVisits a s rows m others g item k c q y → x ≡ y
  template_one g item k c o q x y own there h j = by (is_in g c.gallery) refl h.1 j.1
    where
      same : o ≡ q
      same =
          for_one p (masked a values) g item grounded k c o q (for_moved p of values (masked a values) g item k c o sound agree own there h.0) (for_moved p of others (masked a values) g item k c q sound agree_too own there j.0)

      by : (b : Bool) → is_in g c.gallery ≡ b → OrNone b (ControlVisits a s rows m values item k o) x → OrNone b (ControlVisits a s rows m others item k q) y → x ≡ y
      by true within u v = control_visits_one g item k c o x y own there within u (subst (λ (r : Option ItemControl). ControlVisits a s rows m others item k r y) (sym same) v)
      by false out u v = u ∙ sym v

  item_at_one : (g place : ℕ) (row : Fields) (o q : Option ItemView) (x y : ℕ) → of g ≡ true → ItemAtVisits a s rows m values g place row o x → ItemAtVisits a s rows m others g place row q y → x ≡ y
  item_at_one g place row None q x y own h j = absurd h
  item_at_one g place row (Some i) None x y own h j = absurd j
  item_at_one g place row (Some i) (Some z) x y own h j =
      visited_one (TemplateVisits a s rows m values g (record_of row)) (TemplateVisits a s rows m others g (record_of row)) 0 a.names.controls i.shown z.shown x y
      (λ d n c o q u v e there g' j'. template_one g (record_of row) n c o q u v own (at a.names.controls d n c e there) g' j') h j

  unless_one : (g from : ℕ) (f : Option Fault) (fs : List Fields) (i z : Items) (x y : ℕ) → of g ≡ true → ItemsUnlessVisit a s rows m values g from f fs i x → ItemsUnlessVisit a s rows m others g from f fs z y → x ≡ y
  unless_one g from (Some f) fs i z x y own h j = h ∙ sym j
  unless_one g from None fs i z x y own h j =
      visited_one (ItemAtVisits a s rows m values g) (ItemAtVisits a s rows m others g) (max from 1) (take 100 (drop (max from 1 - 1) fs)) i.list z.list x y (λ d n row o q u v e there g' j'. item_at_one g n row o q u v own g' j') h j

  items_visit_one : (g from : ℕ) (c : ControlName) (i z : Items) (x y : ℕ) → of g ≡ true → slice_get a.names.controls g ≡ Some c → ItemsVisit a s rows m values g from i x → ItemsVisit a s rows m others g from z y → x ≡ y
  items_visit_one g from c i z x y own there h j =
      unless_one g from (fault_in (items_of a.names values g)) (rows_in (items_of a.names values g)) i z x y own h
      (subst (λ (d : Data). ItemsUnlessVisit a s rows m others g from (fault_in d) (rows_in d) z y) (sym (items_same a of values others g c sound alike own there)) j)

  given_one : (g from : ℕ) (c : ControlName) (o : Option Items) (x y : ℕ) → of g ≡ true → slice_get a.names.controls g ≡ Some c → GivenItemsVisit a s rows m values g from o x → GivenItemsVisit a s rows m others g from o y → x ≡ y
  given_one g from c None x y own there h j = h ∙ sym j
  given_one g from c (Some i) x y own there h j = items_visit_one g from c i i x y own there h j

-- ONE NUMBER FOR THE ITEMS OF A GALLERY
pub one_items_visit : OneValue → OneFreshAt → OneItemVisits → OneItemsVisit
one_items_visit one once law a s rows m values others g from o n l sound holds known held gallery fresh also h j =
    given_one one once law a s rows m sound holds known held (is_it g) values others fresh also g from gallery.0 o n l (it_is g) (gallery.1).there h j

-- a control of the screen
shown_visits_one : OneValue → OneFreshAt → OneItemVisits → (a : App) (s : SessionState) (rows : List (List Row)) (m : ℕ) (values others : ℕ → Data) (k : ℕ) (c : ControlName) (o q : Option Shown) (x y : ℕ) → IsSoundApp a → HoldsFitting a.names s → AreKnown a (Some rows) →
    AreHeld (record { shapes = a.names.schema.tables; rows = rows }) → AreFreshFor (present a s (Some rows) m) values (is_on_screen a.names s.screen) → AreFreshFor (present a s (Some rows) m) others (is_on_screen a.names s.screen) → slice_get a.names.controls k ≡ Some c →
    ShownVisits a s rows m values k c o x → ShownVisits a s rows m others k c q y → x ≡ y
shown_visits_one one once law a s rows m values others k c o q x y sound holds known held fresh also there h j =
    by o h.0 h.1 (subst (λ (r : Option Shown). FirstItemsVisit a s rows m others k r y) (sym same) j.1)
  where
    p : Present
    p = present a s (Some rows) m

    same : o ≡ q
    same =
        shown_one p (masked a values) (ground one p (masked a values) sound holds known (masked_fits a values)) k c o q
        (shown_moved p values (masked a values) k c o sound (as_masked p (is_on_screen a.names s.screen) values sound holds known fresh) there h.0)
        (shown_moved p others (masked a values) k c q sound (as_other once p (is_on_screen a.names s.screen) values others sound holds known fresh also) there j.0)

    by : (r : Option Shown) → IsShown p values k c r → FirstItemsVisit a s rows m values k r x → FirstItemsVisit a s rows m others k r y → x ≡ y
    by None w u v = u ∙ sym v
    by (Some z) w u v =
        let own : is_on_screen a.names s.screen k ≡ true = on_screen a.names s.screen k c there ∙ could (is_none c.gallery) (c.screen == s.screen) (is_visible a.names values k) w.0 in
        given_one one once law a s rows m sound holds known held (is_on_screen a.names s.screen) values others fresh also k 1 c z.items x y own there u v

-- ONE NUMBER FOR A SCREEN
pub one_screen_visits : OneValue → OneFreshAt → OneItemVisits → OneScreenVisits
one_screen_visits one once law a s rows m values others shown more n l sound holds known held fresh also h j =
    visited_one (ShownVisits a s rows m values) (ShownVisits a s rows m others) 0 a.names.controls shown more n l
    (λ i k c o q x y e there g g'. shown_visits_one one once law a s rows m values others k c o q x y sound holds known held fresh also (at a.names.controls i k c e there) g g') h j
