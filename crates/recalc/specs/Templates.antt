-- The formulas of controls in galleries.
use Rattle.std.specs.Prelude.{◌≡◌, ℕ, Option, Some, None, slice_get}
use Rattle.app_semantics.specs.Sound.{IsCellOf}
use Rattle.app_semantics.specs.app_cells.declared.app.App.{App}
use Rattle.fx_types.specs.Types.{Shape}
use Rattle.fx_core.specs.declared.names.ControlName.{ControlName}
use Rattle.fx_core.specs.declared.names.Names.{Names}

-- the control of this number stands in a gallery
abbrev pub StandsIn : Names → ℕ → ℕ → Type 0
StandsIn n k gallery = (c : ControlName) × (slice_get n.controls k ≡ Some c)
    × (c.gallery ≡ Some gallery)

-- a property of such a control, where it is written, is the formula of a cell that sees the
-- gallery's item
abbrev pub IsTemplateProperty : App → ℕ → Option ℕ → Type 0
IsTemplateProperty a gallery None = Unit {0}
IsTemplateProperty a gallery (Some d) = (t : Shape) × IsCellOf a.cells d (Some gallery) t

-- how often a formula is evaluated for an item: once, where it is written
abbrev pub steps_of : Option ℕ → ℕ
steps_of (Some d) = 1
steps_of None = 0
