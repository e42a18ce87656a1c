-- The places of an app where formulas may stand, and what each makes of its formula.
use Rattle.std.specs.Prelude.{◌≡◌, ℕ, ◌<◌, ◌≤◌, ◌^◌, ◌++◌, List, [], length, All, Bool, true, false}
use Rattle.std.specs.Prelude.{Option, Some, None, option_map, unwrap_or, slice_get, codes}
use Rattle.std.specs.Prelude.{encode_utf8_all, if◌then◌else◌}
use Rattle.fx_types.specs.TypeView.{shape}
use Rattle.fx_types.specs.Types.{Shape, tables, no_columns}
use Rattle.fx_types.specs.declared.controls.Control.{Control}
use Rattle.fx_types.specs.declared.controls.Control.TheVariants as control
use Rattle.fx_core.specs.BrokenText.{address_of}
use Rattle.fx_core.specs.Controls.{has_property, is_behaviour, is_items, property_type}
use Rattle.fx_core.specs.Lawful.{Has, IsColumnType, IsLawfulGallery}
use Rattle.fx_core.specs.Tree.{Tree}
use Rattle.fx_core.specs.declared.names.ControlName.{ControlName}
use Rattle.fx_core.specs.declared.schema.Column.{Column}
use Rattle.fx_core.specs.declared.schema.TableShape.{TableShape}
use Rattle.app_cells.specs.declared.cell.Cell.{Cell}
use Rattle.app_cells.specs.declared.cell.Spot.{Spot}
use Rattle.app_cells.specs.declared.cell.Spot.TheVariants as spot
use Rattle.app_cells.specs.declared.frame.Frame.{Frame}

-- the names of a screen and of a control
abbrev pub screen_name : Frame → ℕ → List ℕ
screen_name f s = unwrap_or (slice_get f.screens s) []

abbrev pub name_of_control : Option ControlName → List ℕ
name_of_control (Some c) = c.name
name_of_control None = []

abbrev pub control_name : Frame → ℕ → List ℕ
control_name f k = name_of_control (slice_get f.controls k)

-- a name and what of it is meant
abbrev pub address_of_screen : Frame → ℕ → List ℕ
address_of_screen f s = address_of (screen_name f s) ++ (codes "." ++ codes "OnVisible")

abbrev pub address_of_property : Frame → ℕ → List ℕ → List ℕ
address_of_property f k p = address_of (control_name f k) ++ (codes "." ++ p)

-- the address of a formula
abbrev pub address : Frame → Spot → List ℕ
address f (spot.Formula x) = address_of x
address f spot.OnStart = codes "App.OnStart"
address f (spot.OnVisible s) = address_of_screen f s
address f (spot.Property k p) = address_of_property f k p

-- the screen on which it stands
abbrev pub screen_of : Frame → Spot → Option ℕ
screen_of f (spot.OnVisible s) = Some s
screen_of f (spot.Property k p) = option_map (λ (c : ControlName). c.screen)
    (slice_get f.controls k)
screen_of f s = None

-- what acts of a gallery itself
abbrev pub acts_for_gallery : Control → List ℕ → Bool
acts_for_gallery control.Gallery p = is_behaviour control.Gallery p
acts_for_gallery kind p = false

-- What stands in a gallery sees an item of it, and so does what acts of the gallery itself.
abbrev pub item_or : Option ℕ → Bool → ℕ → Option ℕ
item_or (Some g) own k = Some g
item_or None own k = if own then Some k else None

abbrev pub item_in : ℕ → List ℕ → Option ControlName → Option ℕ
item_in k p (Some c) = item_or c.gallery (acts_for_gallery c.kind (encode_utf8_all p)) k
item_in k p None = None

-- the gallery whose item it sees
abbrev pub gallery_seen : Frame → Spot → Option ℕ
gallery_seen f (spot.Property k p) = item_in k p (slice_get f.controls k)
gallery_seen f s = None

abbrev pub acts_in : List ℕ → Option ControlName → Bool
acts_in p (Some c) = is_behaviour c.kind (encode_utf8_all p)
acts_in p None = false

-- whether it may act
abbrev pub can_act : Frame → Spot → Bool
can_act f (spot.Formula x) = false
can_act f spot.OnStart = true
can_act f (spot.OnVisible s) = true
can_act f (spot.Property k p) = acts_in p (slice_get f.controls k)

-- the type that is wanted of a property: of a gallery's rows every table type
abbrev pub wanted_by : Control → List ℕ → Option Shape
wanted_by kind p = if is_items kind p then Some (tables no_columns) else property_type kind p

abbrev pub wanted_in : List ℕ → Option ControlName → Option Shape
wanted_in p (Some c) = wanted_by c.kind (encode_utf8_all p)
wanted_in p None = None

abbrev pub wanted_shape : Frame → Spot → Option Shape
wanted_shape f (spot.Property k p) = wanted_in p (slice_get f.controls k)
wanted_shape f s = None

-- there is such a place: the screen, or the control, whose kind has the property
abbrev pub IsSpot : Frame → Spot → Type 0
IsSpot f (spot.OnVisible s) = s < length f.screens
IsSpot f (spot.Property k p) = Has p (slice_get f.controls k)
IsSpot f s = Unit {0}

-- A FORMULA STANDS WHERE IT SAYS: its place makes this of it.
pub record IsPlaced (f : Frame) (c : Cell) : Type 0 where
  pub spot : IsSpot f c.spot
  pub name : c.name ≡ address f c.spot
  pub screen : c.screen ≡ screen_of f c.spot
  pub item : c.item ≡ gallery_seen f c.spot
  pub acts : c.acts ≡ can_act f c.spot
  pub wanted : option_map shape c.wanted ≡ wanted_shape f c.spot

-- The formula of a place, with this text and this tree, in which positions are told from this byte
-- on.
pub record IsCell (f : Frame) (s : Spot) (from : ℕ) (words : List ℕ) (e : Tree) (c : Cell)
    : Type 0 where
  pub placed : IsPlaced f c
  pub spot : c.spot ≡ s
  pub at : c.at ≡ from
  pub text : c.text ≡ words
  pub expr : c.expr ≡ e

-- at most 63 columns, of types that columns may have
abbrev pub IsTableInLimits : TableShape → Type 0
IsTableInLimits t = (length t.columns ≤ 63) × All (λ (c : Column). IsColumnType c.ty) t.columns

abbrev pub IsControl : Frame → ControlName → Type 0
IsControl f c = (c.screen < length f.screens) × IsLawfulGallery f.controls c.gallery

-- WHAT A FRAME HAS, whatever its names: so many tables, screens and controls, columns of such
-- types, and controls that stand on screens, and in galleries where they stand in something.
pub record IsFrame (f : Frame) : Type 0 where
  pub few_tables : length f.schema.tables ≤ 32
  pub tables : All IsTableInLimits f.schema.tables
  pub few_screens : length f.screens ≤ 64
  pub few_controls : length f.controls ≤ 500
  pub controls : All (IsControl f) f.controls
