-- How many rows showing controls visits, where the rows of tables are told: those that evaluating
-- cells visits, and those that the formulas of templates visit, each evaluated once for each item
-- that is shown.
use Rattle.std.specs.Prelude.{◌≡◌, ◌-◌, ℕ, suc, List, [], ◌∷◌, Bool, true, false, codes, take, drop}
use Rattle.std.specs.Prelude.{max, Option, Some, None}
use Rattle.recalc.specs.app_cells.Leaning.{cell_of_property}
use Rattle.recalc.specs.app_cells.declared.app.App.{App}
use Rattle.recalc.specs.app_semantics.Present.{items_of, present}
use Rattle.fx_types.specs.Values.{Data}
use Rattle.fx_types.specs.declared.faults.Fault.{Fault}
use Rattle.recalc.specs.fx_eval.Visits.{AtMost, Both}
use Rattle.recalc.specs.fx_semantics.Around.{record_of}
use Rattle.recalc.specs.fx_semantics.Rows.{rows_in}
use Rattle.fx_value.specs.Columns.{Row as Fields}
use Rattle.fx_core.specs.declared.names.ControlName.{ControlName}
use Rattle.recalc.specs.ItemVisits.{ItemVisits}
use Rattle.recalc.specs.Kept.{CacheState}
use Rattle.recalc.specs.Visits.{VisitsPerCell}
use Rattle.row_queries.specs.declared.rows.Row.{Row}
use Rattle.session_state.specs.Sessions.{SessionState}
use Rattle.view_text.specs.declared.views.ItemControl.{ItemControl}
use Rattle.view_text.specs.declared.views.ItemView.{ItemView}
use Rattle.view_text.specs.declared.views.Items.{Items}
use Rattle.view_text.specs.declared.views.Shown.{Shown}
use Rattle.session_views.specs.Looking.{AreFreshFor, AreLookedAt}
use Rattle.session_views.specs.Views.{IsShown, IsItemControlShown, fault_in, is_in, put_if_some}

-- so many rows in all, where P tells how many making what each of these gives visits
abbrev pub AreVisited : {C A : Type 0} → (ℕ → C → Option A → ℕ → Type 0) → ℕ → List C → List A → ℕ
    → Type 0
AreVisited P k [] given n = (given ≡ []) × (n ≡ 0)
AreVisited {C} {A} P k (c ∷ cs) given n = (o : Option A) × (rest : List A)
    × (given ≡ put_if_some o rest) × Both (P k c o) (AreVisited P (suc k) cs rest) n

-- so many, or none
abbrev pub OrNone : Bool → (ℕ → Type 0) → ℕ → Type 0
OrNone true P n = P n
OrNone false P n = n ≡ 0

-- where the rows of tables are these, and cells have these values
module _ (a : App) (s : SessionState) (rows : List (List Row)) (m : ℕ) (values : ℕ → Data) where
  -- the formula of a property of a control, for an item
  abbrev pub PropertyVisits : Data → ℕ → List ℕ → ℕ → Type 0
  PropertyVisits item k name = ItemVisits a s rows m values item (cell_of_property a.names k name)

  -- A CONTROL OF A TEMPLATE: whether it is visible for an item, and its text where it is
  abbrev pub ControlVisits : Data → ℕ → Option ItemControl → ℕ → Type 0
  ControlVisits item k (Some c) n = Both (PropertyVisits item k (codes "Visible"))
      (PropertyVisits item k (codes "Text")) n
  ControlVisits item k None n = PropertyVisits item k (codes "Visible") n

  -- if it stands in this gallery, with what it shows for the item
  abbrev pub TemplateVisits : ℕ → Data → ℕ → ControlName → Option ItemControl → ℕ → Type 0
  TemplateVisits g item k c o n = IsItemControlShown (present a s (Some rows) m) values g item k c o
      × OrNone (is_in g c.gallery) (ControlVisits item k o) n

  -- AN ITEM: the controls of the template
  abbrev pub ItemAtVisits : ℕ → ℕ → Fields → Option ItemView → ℕ → Type 0
  ItemAtVisits g at row None n = ⊥
  ItemAtVisits g at row (Some i) n = AreVisited (TemplateVisits g (record_of row)) 0
      a.names.controls i.shown n

  -- the items of these rows from a position on, as they are shown
  abbrev pub RowItemsVisit : ℕ → ℕ → List Fields → Items → ℕ → Type 0
  RowItemsVisit g from fs i = AreVisited (ItemAtVisits g) (max from 1)
      (take 100 (drop (max from 1 - 1) fs)) i.list

  -- none where an error stands in their place
  abbrev pub ItemsUnlessVisit : ℕ → ℕ → Option Fault → List Fields → Items → ℕ → Type 0
  ItemsUnlessVisit g from None fs i n = RowItemsVisit g from fs i n
  ItemsUnlessVisit g from (Some f) fs i n = n ≡ 0

  -- THE ITEMS OF A GALLERY from a position on
  abbrev pub ItemsVisit : ℕ → ℕ → Items → ℕ → Type 0
  ItemsVisit g from i = ItemsUnlessVisit g from (fault_in (items_of a.names values g))
      (rows_in (items_of a.names values g)) i

  -- if they are given
  abbrev pub GivenItemsVisit : ℕ → ℕ → Option Items → ℕ → Type 0
  GivenItemsVisit g from (Some i) n = ItemsVisit g from i n
  GivenItemsVisit g from None n = n ≡ 0

  -- the first items of a gallery, if it is shown
  abbrev pub FirstItemsVisit : ℕ → Option Shown → ℕ → Type 0
  FirstItemsVisit k (Some x) n = GivenItemsVisit k 1 x.items n
  FirstItemsVisit k None n = n ≡ 0

  -- a control, with what it shows
  abbrev pub ShownVisits : ℕ → ControlName → Option Shown → ℕ → Type 0
  ShownVisits k c o n = IsShown (present a s (Some rows) m) values k c o × FirstItemsVisit k o n

  -- THE CONTROLS OF A SCREEN
  abbrev pub ScreenVisits : List Shown → ℕ → Type 0
  ScreenVisits shown = AreVisited ShownVisits 0 a.names.controls shown

-- THE ROWS VISITED: no more than evaluating the cells visits that are needed for what is looked at,
-- weren't clean, and aren't cut off, and than these beside where the cells that are looked at have
-- their fresh values
pub record AreRowsVisited (a : App) (s : SessionState) (rows : List (List Row)) (m : ℕ)
    (of : ℕ → Bool) (start after : CacheState) (beside : (ℕ → Data) → ℕ → Type 0)
    (old before now : ℕ) : Type 0 where
  pub roots : List ℕ
  pub looked : AreLookedAt a of roots
  pub between : ℕ
  pub mid : ℕ
  pub cells : VisitsPerCell a s rows m roots start after old between before mid
  pub values : ℕ → Data
  pub fresh : AreFreshFor (present a s (Some rows) m) values of
  pub items : AtMost (beside values) mid now
