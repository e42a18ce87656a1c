-- The places of an app where formulas may stand, and the one that an address names.
use Rattle.std.specs.Prelude.{ℕ, suc, ◌++◌, List, [], ◌∷◌, Bool, true, false, ◌&&◌, Option, find}
use Rattle.std.specs.Prelude.{flat_map, map, nat_eq, bytes_eq, if◌then◌else◌}
use Rattle.fx_types.specs.Words.{scalars_of}
use Rattle.fx_types.specs.declared.controls.Control.{Control}
use Rattle.fx_core.specs.declared.names.ControlName.{ControlName}
use Rattle.app_file.specs.FormOfApp.{property_names}
use Rattle.app_cells.specs.declared.app.App.{App}
use Rattle.app_cells.specs.declared.app.CellInfo.{CellInfo}
use Rattle.app_cells.specs.declared.cell.Spot.{Spot}
use Rattle.app_cells.specs.declared.cell.Spot.TheVariants as spot
use Rattle.app_cells.specs.declared.frame.Frame.{Frame}
use Rattle.app_cells.specs.Spots.{address}
use Rattle.app_texts.specs.Frames.{app_frame}

-- a named formula stands where it is written
abbrev pub named_spot : Spot → List Spot
named_spot (spot.Formula x) = spot.Formula x ∷ []
named_spot s = []

-- the properties of a control, in their order
abbrev pub property_spots : ℕ → Control → List Spot
property_spots number kind = map (λ p. spot.Property number (scalars_of p)) (property_names kind)

-- those of the controls of a screen among controls that are numbered from this number on
abbrev pub control_spots : ℕ → ℕ → List ControlName → List Spot
control_spots screen number [] = []
control_spots screen number (c ∷ cs) = (if nat_eq c.screen screen then property_spots number
    c.kind else []) ++ control_spots screen (suc number) cs

-- for each screen what runs when it is shown, and the properties of its controls
abbrev pub screen_spots : List ControlName → ℕ → List (List ℕ) → List Spot
screen_spots cs screen [] = []
screen_spots cs screen (x ∷ xs) = spot.OnVisible screen
    ∷ (control_spots screen 0 cs ++ screen_spots cs (suc screen) xs)

-- THE PLACES OF AN APP, in its order: those of its named formulas, and all of its frame
abbrev pub spots_in : Frame → List CellInfo → List Spot
spots_in f is = flat_map (λ (i : CellInfo). named_spot i.cell.spot) is ++ spot.OnStart
    ∷ screen_spots f.controls 0 f.screens

abbrev pub spots : App → List Spot
spots a = spots_in (app_frame a) a.cells

-- two places are the same
abbrev pub is_same_spot : Spot → Spot → Bool
is_same_spot (spot.Formula x) (spot.Formula y) = bytes_eq y x
is_same_spot spot.OnStart spot.OnStart = true
is_same_spot (spot.OnVisible s) (spot.OnVisible r) = nat_eq r s
is_same_spot (spot.Property k p) (spot.Property j q) = nat_eq j k && bytes_eq q p
is_same_spot s r = false

abbrev pub has_address : Frame → List ℕ → Spot → Bool
has_address f x s = bytes_eq (address f s) x

-- the place that an address names
abbrev pub spot_of : App → List ℕ → Option Spot
spot_of a x = find (has_address (app_frame a) x) (spots a)
