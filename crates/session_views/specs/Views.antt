-- What a session shows.
use Rattle.std.specs.Prelude.{◌≡◌, ℕ, suc, pos, ◌-◌, ◌&&◌, ◌==◌, List, [], ◌∷◌, Bool, true, false}
use Rattle.std.specs.Prelude.{codes, length, take, drop, max, Option, Some, None, is_none}
use Rattle.std.specs.Prelude.{option_map, slice_get, unwrap_or}
use Rattle.recalc.specs.app_semantics.Chosen.{item_id}
use Rattle.session_views.specs.Looking.{AreFreshFor, is_it, is_on_screen}
use Rattle.recalc.specs.app_semantics.Present.{Present, input_of, items_of}
use Rattle.recalc.specs.app_semantics.Properties.{IsPropertyForItem, is_true, is_visible}
use Rattle.recalc.specs.app_semantics.Properties.{property_value}
use Rattle.fx_types.specs.Values.{Data, number, text, boolean, fault}
use Rattle.fx_types.specs.declared.faults.Fault.{Fault}
use Rattle.fx_types.specs.declared.controls.Control.TheVariants as control
use Rattle.fx_types.specs.declared.controls.Control.{Control}
use Rattle.recalc.specs.fx_semantics.Around.{record_of}
use Rattle.recalc.specs.fx_semantics.Rows.{rows_in}
use Rattle.fx_value.specs.Columns.{Row}
use Rattle.fx_core.specs.declared.names.ControlName.{ControlName}
use Rattle.fx_core.specs.declared.names.Names.{Names}
use Rattle.session_state.specs.Sessions.{SessionState}
use Rattle.view_text.specs.declared.views.ItemControl.{ItemControl}
use Rattle.view_text.specs.declared.views.ItemView.{ItemView}
use Rattle.view_text.specs.declared.views.Items.{Items}
use Rattle.view_text.specs.declared.views.Shown.{Shown}
use Rattle.view_text.specs.declared.views.View.{View}

-- ---- properties that are shown, by rising names
abbrev pub displayed : Names → SessionState → (ℕ → Data) → ℕ → Control → Row
displayed n s values k control.Label = (
  codes "Text",
  property_value n values k (codes "Text")
      (text []),
) ∷ []
displayed n s values k control.Button = (
  codes "Text",
  property_value n values k (codes "Text")
      (text []),
) ∷ []
displayed n s values k control.TextInput = (codes "Text", input_of n s values k) ∷ []
displayed n s values k control.Slider =
    (codes "Max", property_value n values k (codes "Max") (number (pos 1000000)))
    ∷ (codes "Min", property_value n values k (codes "Min") (number (pos 0)))
    ∷ (codes "Value", input_of n s values k) ∷ []
displayed n s values k control.Checkbox =
    (codes "Text", property_value n values k (codes "Text") (text []))
    ∷ (codes "Value", input_of n s values k) ∷ []
displayed n s values k control.DatePicker = (codes "SelectedDate", input_of n s values k) ∷ []
displayed n s values k control.Gallery = []

-- ---- lists that are made of what each of others gives, if it gives anything
abbrev pub put_if_some : {A : Type 0} → Option A → List A → List A
put_if_some (Some x) xs = x ∷ xs
put_if_some None xs = xs

-- P tells what each of these gives, which are numbered from k on
abbrev pub AreEachGiven : {C A : Type 0} → (ℕ → C → Option A → Type 0) → ℕ → List C → List A
    → Type 0
AreEachGiven P k [] given = given ≡ []
AreEachGiven {C} {A} P k (c ∷ cs) given = (o : Option A) × (rest : List A) × P k c o
    × AreEachGiven P (suc k) cs rest × (given ≡ put_if_some o rest)

-- ---- items
abbrev pub is_in : ℕ → Option ℕ → Bool
is_in g (Some h) = h == g
is_in g None = false

-- a control of a template as it is for an item: a label or a button, with its text
pub record IsItemControl (p : Present) (values : ℕ → Data) (item : Data) (k : ℕ) (c : ControlName)
    (s : ItemControl) : Type 0 where
  pub name : s.name ≡ c.name
  pub kind : s.kind ≡ c.kind
  pub words : Data
  pub are_words : IsPropertyForItem p values item k (codes "Text") (text []) words
  pub shows : s.values ≡ (codes "Text", words) ∷ []

-- a control is shown for an item where it stands in the gallery, and its Visible for the item is
-- true
abbrev pub IsItemControlShown : Present → (ℕ → Data) → ℕ → Data → ℕ → ControlName
    → Option ItemControl → Type 0
IsItemControlShown p values g item k c None = is_in g c.gallery ≡ true
    → (v : Data) × IsPropertyForItem p values item k (codes "Visible") (boolean true) v
    × (is_true v ≡ false)
IsItemControlShown p values g item k c (Some s) =
    (is_in g c.gallery ≡ true) × ((v : Data) × IsPropertyForItem p values item k (codes "Visible")
    (boolean true) v × (is_true v ≡ true))
    × IsItemControl p values item k c s

-- the item at a position, from 1, with its id and with what is shown for it
abbrev pub IsItemAt : Present → (ℕ → Data) → ℕ → ℕ → Row → Option ItemView → Type 0
IsItemAt p values g at row None = ⊥
IsItemAt p values g at row (Some i) =
    (i.at ≡ at) × (i.id ≡ item_id row) × AreEachGiven
    (IsItemControlShown p values g (record_of row)) 0 p.app.names.controls i.shown

-- the items of these rows from a position on, where 0 counts as 1: how many there are, and a
-- hundred of them at most
abbrev pub AreRowItems : Present → (ℕ → Data) → ℕ → ℕ → List Row → Items → Type 0
AreRowItems p values g from rows i =
    (i.fault ≡ None) × (i.total ≡ length rows)
    × AreEachGiven (IsItemAt p values g) (max from 1) (take 100 (drop (max from 1 - 1) rows)) i.list

-- the error that a value is, if it is one
abbrev pub fault_in : Data → Option Fault
fault_in (fault k m) = Some (record { kind = k; message = m })
fault_in d = None

-- an error stands in the place of items
abbrev pub AreItemsUnless : Present → (ℕ → Data) → ℕ → ℕ → Option Fault → List Row → Items → Type 0
AreItemsUnless p values g from None rows i = AreRowItems p values g from rows i
AreItemsUnless p values g from (Some f) rows i = (i.fault ≡ Some f) × (i.total ≡ 0) × (i.list ≡ [])

-- THE ITEMS OF A GALLERY from a position on, or the error that stands in their place
abbrev pub AreItemsIn : Present → (ℕ → Data) → ℕ → ℕ → Data → Items → Type 0
AreItemsIn p values g from d i = AreItemsUnless p values g from (fault_in d) (rows_in d) i

abbrev pub AreItemsFrom : Present → (ℕ → Data) → ℕ → ℕ → Items → Type 0
AreItemsFrom p values g from i = AreItemsIn p values g from (items_of p.app.names values g) i

-- ---- the screen
-- a control stands on the current screen, and is visible
abbrev pub is_seen : Names → SessionState → (ℕ → Data) → ℕ → ControlName → Bool
is_seen n s values k c = (c.screen == s.screen) && is_visible n values k

-- such a control is shown by itself, unless it stands in a gallery
abbrev pub is_top_level_shown : Names → SessionState → (ℕ → Data) → ℕ → ControlName → Bool
is_top_level_shown n s values k c = is_none c.gallery && is_seen n s values k c

-- a gallery shows its first items, and other controls none
abbrev pub ShowsFirstItems : Present → (ℕ → Data) → ℕ → Control → Option Items → Type 0
ShowsFirstItems p values k control.Gallery (Some i) = AreItemsFrom p values k 1 i
ShowsFirstItems p values k control.Gallery None = ⊥
ShowsFirstItems p values k kind o = o ≡ None

pub record IsShownControl (p : Present) (values : ℕ → Data) (k : ℕ) (c : ControlName) (s : Shown) :
    Type 0 where
  pub name : s.name ≡ c.name
  pub kind : s.kind ≡ c.kind
  pub shows : s.values ≡ displayed p.app.names p.session values k c.kind
  pub items : ShowsFirstItems p values k c.kind s.items

abbrev pub IsShown : Present → (ℕ → Data) → ℕ → ControlName → Option Shown → Type 0
IsShown p values k c None = is_top_level_shown p.app.names p.session values k c ≡ false
IsShown p values k c (Some s) = (is_top_level_shown p.app.names p.session values k c ≡ true)
    × IsShownControl p values k c s

-- WHAT A SESSION SHOWS, where cells have these values: its screen, and the controls that are shown
-- on it, in app order
pub record IsView (p : Present) (values : ℕ → Data) (v : View) : Type 0 where
  pub screen : slice_get p.app.names.screens p.session.screen ≡ Some v.screen
  pub shown : AreEachGiven (IsShown p values) 0 p.app.names.controls v.shown

-- THE VIEW AT A MOMENT: the cells that are looked at have their fresh values
pub record IsFreshView (p : Present) (v : View) : Type 0 where
  pub values : ℕ → Data
  pub fresh : AreFreshFor p values (is_on_screen p.app.names p.session.screen)
  pub shows : IsView p values v

-- ---- the items of a gallery alone
-- the control of this number is seen
abbrev pub is_seen_at : Names → SessionState → (ℕ → Data) → ℕ → Bool
is_seen_at n s values k = unwrap_or (option_map (is_seen n s values k) (slice_get n.controls k))
    false

-- the items of a gallery that is seen; of another none are given
abbrev pub AreSeenItems : Present → (ℕ → Data) → ℕ → ℕ → Option Items → Type 0
AreSeenItems p values g from (Some i) = (is_seen_at p.app.names p.session values g ≡ true)
    × AreItemsFrom p values g from i
AreSeenItems p values g from None = is_seen_at p.app.names p.session values g ≡ false

-- THE ITEMS AT A MOMENT: the cells that are looked at have their fresh values
pub record AreFreshItems (p : Present) (g from : ℕ) (o : Option Items) : Type 0 where
  pub values : ℕ → Data
  pub fresh : AreFreshFor p values (is_it g)
  pub are : AreSeenItems p values g from o
