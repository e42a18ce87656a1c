-- What a request may write at most, whole or cut off.
use Rattle.std.specs.Prelude.{◌≡◌, ◌⊎◌, ℕ, List, Option, Some, Result, Ok, Err, slice_get}
use Rattle.fx_behave.specs.Writable.{MayWrite}
use Rattle.fx_core.specs.Reads.{IsAmong}
use Rattle.fx_core.specs.declared.names.ControlName.{ControlName}
use Rattle.fx_core.specs.declared.sources.Source.{Source}
use Rattle.fx_core.specs.declared.sources.Source.TheVariants as source
use Rattle.recalc.specs.app_cells.declared.app.App.{App}
use Rattle.recalc.specs.app_cells.declared.app.CellInfo.{CellInfo}
use Rattle.view_text.specs.declared.refused.Refusal.{Refusal}
use Rattle.session_requests.specs.Acting.{item_chosen}
use Rattle.session_requests.specs.Shown.{control_number}
use Rattle.session_requests.specs.Targets.{InputValue, event_gallery}
use Rattle.session_requests.specs.Triggers.{cell_at}
use Rattle.session_requests.specs.declared.event.Event.{Event}
use Rattle.session_requests.specs.declared.input.Input.{Input}
use Rattle.session_requests.specs.declared.target.Target.{Target}
use Rattle.session_requests.specs.declared.trigger.Trigger.{Trigger}
use Rattle.session_requests.specs.declared.trigger.Trigger.TheVariants.{OnChange, OnCheck, OnSelect}
use Rattle.session_requests.specs.declared.trigger.Trigger.TheVariants.{OnUncheck, OnVisible}

-- each of these sources is such a one
abbrev pub AllSources : (Source → Type 0) → List Source → Type 0
AllSources P ws = (x : Source) → IsAmong x ws → P x

-- ---- at a trigger

-- the formula in the cell of this number may write the source, if there is one
abbrev pub CellMayWrite : App → Option ℕ → Source → Type 0
CellMayWrite a o x = (k : ℕ) × (c : CellInfo) × (o ≡ Some k) × (slice_get a.cells k ≡ Some c)
    × MayWrite c.core x

-- the formula of a trigger may
abbrev pub TriggerMayWrite : App → Trigger → Source → Type 0
TriggerMayWrite a trigger = CellMayWrite a (cell_at trigger a)

-- the `OnVisible` of some screen may
abbrev pub ScreenMayWrite : App → Source → Type 0
ScreenMayWrite a x = (screen : ℕ) × TriggerMayWrite a (OnVisible screen) x

-- WHAT A REQUEST MAY WRITE at a trigger: what its formula may, and what may a screen that is shown
abbrev pub RequestMayWrite : App → Trigger → Source → Type 0
RequestMayWrite a trigger x = TriggerMayWrite a trigger x ⊎ ScreenMayWrite a x

-- and beside what is given or chosen
abbrev pub EffectMayWrite : App → List Source → Trigger → Source → Type 0
EffectMayWrite a given trigger x = IsAmong x given ⊎ RequestMayWrite a trigger x

-- ---- events

-- an event that was let through may write what it chooses, and what the `OnSelect` of its control
-- may
abbrev pub TargetMayWrite : App → Result Target Refusal → Source → Type 0
TargetMayWrite a (Err r) x = ⊥
TargetMayWrite a (Ok t) x = EffectMayWrite a (item_chosen t.item) (OnSelect t.control) x

-- the chosen item of a gallery
abbrev pub IsChosenOf : Option ℕ → Source → Type 0
IsChosenOf o x = (gallery : ℕ) × (o ≡ Some gallery) × (x ≡ source.Chosen gallery)

-- AN EVENT MAY WRITE the chosen item of the gallery around its control, and what the `OnSelect` of
-- the control may
abbrev pub EventMayWrite : App → Event → Source → Type 0
EventMayWrite a e x =
    (k : ℕ) × (c : ControlName) × (control_number e.control a.names ≡ Some k)
    × (slice_get a.names.controls k ≡ Some c)
    × (IsChosenOf (event_gallery k c) x ⊎ RequestMayWrite a (OnSelect k) x)

-- ---- inputs

-- what is given to a control may be written, and what its `OnChange`, `OnCheck` and `OnUncheck` may
abbrev pub ControlMayWrite : App → ℕ → Source → Type 0
ControlMayWrite a k x = (x ≡ source.Input k) ⊎ (RequestMayWrite a (OnChange k) x
    ⊎ (RequestMayWrite a (OnCheck k) x ⊎ RequestMayWrite a (OnUncheck k) x))

-- so it is of an input that was let through
abbrev pub GivenMayWrite : App → Result InputValue Refusal → Source → Type 0
GivenMayWrite a (Err r) x = ⊥
GivenMayWrite a (Ok g) x = ControlMayWrite a g.0 x

-- AN INPUT MAY WRITE what is given to its control, and what may the formulas that act then
abbrev pub InputMayWrite : App → Input → Source → Type 0
InputMayWrite a i x = (k : ℕ) × (control_number i.control a.names ≡ Some k) × ControlMayWrite a k x
