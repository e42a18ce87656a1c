-- The formulas that an app file has beside its named ones, and what it has beside its formulas.
use Rattle.std.specs.Prelude.{◌≡◌, ℕ, suc, ◌+◌, ◌<◌, ◌≤◌, ◌^◌, ◌++◌, List, [], ◌∷◌, length, map}
use Rattle.std.specs.Prelude.{All, Ok, Bool, true, false, not, Option, Some, None, option_map}
use Rattle.std.specs.Prelude.{slice_get, encode_utf8_all}
use Rattle.std.specs.List.{filter}
use Rattle.fx_types.specs.declared.types.Ty.TheVariants as ty
use Rattle.fx_types.specs.declared.controls.Control.TheVariants as control
use Rattle.fx_core.specs.Controls.{has_property}
use Rattle.fx_core.specs.declared.names.ControlName.{ControlName}
use Rattle.fx_core.specs.declared.schema.Schema.{Schema}
use Rattle.app_file.specs.declared.file.AppFile.{AppFile}
use Rattle.app_file.specs.declared.file.ControlShape.{ControlShape}
use Rattle.app_file.specs.declared.file.PropertyText.{PropertyText}
use Rattle.app_file.specs.declared.file.ScreenShape.{ScreenShape}
use Rattle.app_file.specs.Files.{IsRead}
use Rattle.app_cells.specs.declared.cell.Spot.{Spot}
use Rattle.app_cells.specs.declared.cell.Spot.TheVariants as spot
use Rattle.app_cells.specs.declared.frame.Frame.{Frame}
use Rattle.app_cells.specs.Spots.{IsTableInLimits}
use Rattle.app_texts.specs.declared.file_texts.Text.{Text}

-- the controls of a screen, of which the first has this number among the controls of all screens
abbrev pub control_of : ℕ → ℕ → ControlShape → ControlName
control_of screen first c = record {
  name = c.name;
  kind = c.kind;
  screen = screen;
  gallery = option_map (λ place. first + place) c.gallery;
  items = ty.Blank;
}

abbrev pub controls_from : ℕ → ℕ → List ScreenShape → List ControlName
controls_from screen first [] = []
controls_from screen first (s ∷ ss) = map (control_of screen first) s.controls
    ++ controls_from (suc screen) (first + length s.controls) ss

abbrev pub screen_names : List ScreenShape → List (List ℕ)
screen_names ss = map (λ (s : ScreenShape). s.name) ss

-- WHAT A FILE HAS BESIDE ITS FORMULAS: its tables and its row limit, its screens, and their
-- controls with numbers over the whole app
abbrev pub frame_by : Schema → ℕ → List ScreenShape → Frame
frame_by s limit ss = record {
  schema = s;
  limit = limit;
  screens = screen_names ss;
  controls = controls_from 0 0 ss;
}

abbrev pub file_frame : AppFile → Frame
file_frame a = frame_by a.schema a.row_limit a.screens

abbrev pub text_of_spot : Spot → List ℕ → Text
text_of_spot s t = record { spot = s; text = t }

-- the texts of a control's properties, and those of controls that are numbered from this number on
abbrev pub property_texts : ℕ → ControlShape → List Text
property_texts number c = map (λ (p : PropertyText). text_of_spot (spot.Property number p.name)
    p.text) c.properties

abbrev pub texts_of_controls : ℕ → List ControlShape → List Text
texts_of_controls number [] = []
texts_of_controls number (c ∷ cs) = property_texts number c ++ texts_of_controls (suc number) cs

-- for each screen what runs when it is shown, and the properties of its controls
abbrev pub texts_of_screens : ℕ → ℕ → List ScreenShape → List Text
texts_of_screens screen first [] = []
texts_of_screens screen first (s ∷ ss) =
    text_of_spot (spot.OnVisible screen) s.on_visible
    ∷ (texts_of_controls first s.controls
    ++ texts_of_screens (suc screen) (first + length s.controls) ss)

-- an empty text is no formula
abbrev pub is_empty_text : List ℕ → Bool
is_empty_text [] = true
is_empty_text (c ∷ cs) = false

abbrev pub is_written : Text → Bool
is_written t = not (is_empty_text (encode_utf8_all t.text))

-- THE FORMULAS THAT A FILE HAS BESIDE ITS NAMED ONES, in the order of the app
abbrev pub formula_texts : AppFile → List Text
formula_texts a = filter is_written (text_of_spot spot.OnStart a.on_start
    ∷ texts_of_screens 0 0 a.screens)

-- a gallery's place is that of a gallery
abbrev pub IsGalleryShape : Option ControlShape → Type 0
IsGalleryShape (Some c) = c.kind ≡ control.Gallery
IsGalleryShape None = ⊥

abbrev pub IsGalleryShapeAt : List ControlShape → Option ℕ → Type 0
IsGalleryShapeAt cs (Some g) = IsGalleryShape (slice_get cs g)
IsGalleryShapeAt cs None = Unit {0}

abbrev pub HasGalleries : ScreenShape → Type 0
HasGalleries s = All (λ (c : ControlShape). IsGalleryShapeAt s.controls c.gallery) s.controls

-- each property is one of its control's kind
abbrev pub HasProperties : ScreenShape → Type 0
HasProperties s = All (λ (c : ControlShape). All
    (λ (p : PropertyText). has_property c.kind (encode_utf8_all p.name) ≡ true) c.properties)
    s.controls

-- What a file has once it is read: so many tables, columns, screens and controls, columns of such
-- types, galleries and properties that are some, and texts of fewer than 2^32 bytes.
pub record IsSoundFile (a : AppFile) : Type 0 where
  pub few_tables : length a.schema.tables ≤ 32
  pub tables : All IsTableInLimits a.schema.tables
  pub few_screens : length a.screens ≤ 64
  pub few_controls : length (controls_from 0 0 a.screens) ≤ 500
  pub galleries : All HasGalleries a.screens
  pub properties : All HasProperties a.screens
  pub texts : All (λ (t : Text). length (encode_utf8_all t.text) < 2 ^ 32) (formula_texts a)
  pub named : length (encode_utf8_all a.formulas) < 2 ^ 32

abbrev pub ReadIsSound : Type 0
ReadIsSound = (file : List ℕ) (a : AppFile) → IsRead file (Ok a) → IsSoundFile a
