-- What views are made of.
use Rattle.std.specs.Prelude.{◌≡◌, ℕ, true, Some, slice_get}
use Rattle.recalc.specs.app_cells.declared.app.App.{App}
use Rattle.recalc.specs.app_semantics.Holding.{HoldsFitting}
use Rattle.recalc.specs.app_semantics.Sound.{IsSoundApp}
use Rattle.fx_types.specs.declared.controls.Control.TheVariants as control
use Rattle.fx_scalar.specs.ScalarFunctions.{IsToday}
use Rattle.recalc.specs.fx_semantics.Around.{record_of}
use Rattle.fx_value.specs.Columns.{Row}
use Rattle.fx_core.specs.SourceTypes.{item_type}
use Rattle.fx_core.specs.declared.names.ControlName.{ControlName}
use Rattle.fx_core.specs.declared.names.Names.{Names}
use Rattle.fx_value.specs.Fits.{fits_in}
use Rattle.recalc.specs.Values.{CellsFit, CellValues, value_of}
use Rattle.session_state.specs.Sessions.{SessionState}

-- an accepted app, a session whose values fit it, and the values of its cells on a day
pub record CanShow (a : App) (s : SessionState) (v : CellValues) : Type 0 where
  pub sound : IsSoundApp a
  pub holds : HoldsFitting a.names s
  pub fits : CellsFit a (value_of v)
  pub day : (moment : ℕ) × IsToday moment v.day

-- the control of this number is a gallery
pub record IsGalleryAt (n : Names) (g : ℕ) (c : ControlName) : Type 0 where
  pub there : slice_get n.controls g ≡ Some c
  pub kind : c.kind ≡ control.Gallery

abbrev pub IsGalleryOf : Names → ℕ → Type 0
IsGalleryOf n g = (c : ControlName) × IsGalleryAt n g c

-- a row is an item of the gallery of this number
abbrev pub IsItemOf : Names → ℕ → Row → Type 0
IsItemOf n g r = (c : ControlName) × IsGalleryAt n g c
    × (fits_in (record_of r) (item_type c) ≡ true)
