-- Which formula acts at which trigger, and whose item it sees.
use Rattle.std.specs.Prelude.{ℕ, ◌==◌, ◌&&◌, Bool, true, false, List, codes, encode_utf8_all}
use Rattle.std.specs.Prelude.{bytes_eq, Option, None, slice_get}
use Rattle.std.specs.List.{position}
use Rattle.recalc.specs.app_cells.Spots.{item_in}
use Rattle.recalc.specs.app_cells.declared.app.App.{App}
use Rattle.recalc.specs.app_cells.declared.app.CellInfo.{CellInfo}
use Rattle.recalc.specs.app_cells.declared.cell.Spot.{Spot}
use Rattle.recalc.specs.app_cells.declared.cell.Spot.TheVariants as spot
use Rattle.fx_types.specs.Values.{Data}
use Rattle.fx_semantics.specs.Sound.{IsItemFit}
use Rattle.fx_typing.specs.Typing.{item_context}
use Rattle.session_requests.specs.declared.trigger.Trigger.{Trigger}
use Rattle.session_requests.specs.declared.trigger.Trigger.TheVariants.{OnStart, OnVisible}
use Rattle.session_requests.specs.declared.trigger.Trigger.TheVariants.{OnSelect, OnChange, OnCheck}
use Rattle.session_requests.specs.declared.trigger.Trigger.TheVariants.{OnUncheck}

-- the property of this name of a control
abbrev pub is_property_named : ℕ → List ℕ → Spot → Bool
is_property_named k name (spot.Property c p) = c == k && bytes_eq (encode_utf8_all p) name
is_property_named k name s = false

abbrev pub is_start : Spot → Bool
is_start spot.OnStart = true
is_start s = false

abbrev pub is_on_visible : ℕ → Spot → Bool
is_on_visible k (spot.OnVisible s) = s == k
is_on_visible k s = false

-- the place of the formula that acts
abbrev pub is_at : Trigger → Spot → Bool
is_at OnStart s = is_start s
is_at (OnVisible k) s = is_on_visible k s
is_at (OnSelect k) s = is_property_named k (codes "OnSelect") s
is_at (OnChange k) s = is_property_named k (codes "OnChange") s
is_at (OnCheck k) s = is_property_named k (codes "OnCheck") s
is_at (OnUncheck k) s = is_property_named k (codes "OnUncheck") s

-- the number of its cell, where it is written
abbrev pub cell_at : Trigger → App → Option ℕ
cell_at t a = position (λ (c : CellInfo). is_at t c.cell.spot) a.cells

-- the gallery whose item a formula sees that acts of a control: the one in which the control
-- stands, or the control itself
abbrev pub trigger_gallery : App → ℕ → List ℕ → Option ℕ
trigger_gallery a k name = item_in k name (slice_get a.names.controls k)

-- the gallery whose item the formula of a trigger sees
abbrev pub gallery_at : App → Trigger → Option ℕ
gallery_at a OnStart = None
gallery_at a (OnVisible k) = None
gallery_at a (OnSelect k) = trigger_gallery a k (codes "OnSelect")
gallery_at a (OnChange k) = trigger_gallery a k (codes "OnChange")
gallery_at a (OnCheck k) = trigger_gallery a k (codes "OnCheck")
gallery_at a (OnUncheck k) = trigger_gallery a k (codes "OnUncheck")

-- an item fits the formula of a trigger: it is one of that gallery
abbrev pub ItemFits : App → Trigger → Option Data → Type 0
ItemFits a trigger item = IsItemFit item (item_context a.names (gallery_at a trigger))
